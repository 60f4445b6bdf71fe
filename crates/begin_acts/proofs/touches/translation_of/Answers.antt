use Rattle.act_counts.specs.act_states.proofs.{◌&&◌, ◌==◌, sym, ◌∙◌, Translation}
use Rattle.begin_acts.proofs.Searching.{found_here, found_later}
use Rattle.begin_acts.proofs.touches.translation_of.Goals as goal

pub returns-then-is_of : goal.returns-then-is_of
returns-then-is_of c =
    sym (c.each.invariant
    ∙ found_here (λ (t : Translation). t.pages == c.args.pages && t.page == c.args.page)
    c.args.cached.now c.each.at c.item_at-item.result c.item_at-item.ensures
    (sym c.is_of.ensures ∙ c.if-is_of.true))

pub each-preserved : goal.each-preserved
each-preserved c =
    c.each.invariant
    ∙ found_later (λ (t : Translation). t.pages == c.args.pages && t.page == c.args.page)
    c.args.cached.now c.each.at c.item_at-item.result c.item_at-item.ensures
    (sym c.is_of.ensures ∙ c.if-is_of.false)
