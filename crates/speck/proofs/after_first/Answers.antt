use Rattle.std.proofs.Common.{◌≡◌, ◌++◌, drop, length, sym, ap, ◌∙◌, option_to_list}
use Rattle.std.proofs.{lemmas.Iterator.items_from_collect, lemmas.Iterator.Adapters.YieldsList-from_vec}
use Rattle.std.specs.Vec.Iter.{into_iter_items}
use Rattle.speck.proofs.after_first.Goals as goal

pub returns-in-Some : goal.returns-in-Some
returns-in-Some c =
    let left = into_iter_items c.next.new.self in
    let rest : left ≡ drop 1 (into_iter_items c.args.args) =
    sym (ap (drop 1) (c.next.ensures.items ∙ ap (λ o. option_to_list o ++ left) c.in-Some.is)) in
    items_from_collect _ c.collect.ensures.ran (YieldsList-from_vec _ rest (c.next.new.self.rest.ok.0 ∙ ap length rest))
