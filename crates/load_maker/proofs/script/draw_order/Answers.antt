use Rattle.std.proofs.Common.{◌≡◌, ◌++◌, ap, ◌∙◌, arith}
use Rattle.load_maker.proofs.Repeats.{drawn_none, drawn_more}
use Rattle.{load_maker.specs.repeated, load_maker.specs.an_item, load_maker.specs.Loads.drawn_items}
use Rattle.load_maker.proofs.script.draw_order.Goals as goal

pub items-init : goal.items-init
items-init c = drawn_none an_item c.in_ok-items.items.items c.args.draws.now.at

pub items-preserved : goal.items-preserved
items-preserved c =
    drawn_more an_item _ _ _ _ _ _ _ _ c.items.invariant c.in_ok-push.ensures.items c.draw_item.ensures.value c.draw_item.ensures.goes_on

pub returns-clause-value : goal.returns-clause-value
unfolding drawn_items
returns-clause-value c =
    let all : c.items.counter ≡ 6000 = omega arith in
    c.items.invariant.all
    ∙ ap (λ n. c.in_ok-items.items.items ++ (repeated n an_item c.args.draws.now.at).0) all
    ∙ ap (λ items. items ++ (repeated 6000 an_item c.args.draws.now.at).0) c.in_ok-items.ensures

pub returns-clause-goes_on : goal.returns-clause-goes_on
unfolding drawn_items
returns-clause-goes_on c =
    let all : c.items.counter ≡ 6000 = omega arith in
    c.items.invariant.goes_on ∙ ap (λ n. (repeated n an_item c.args.draws.now.at).1) all
