use Rattle.std.proofs.Common.{◌≡◌, ◌<◌, ◌++◌, ℕ, Option, Some, length, slice_get, refl, sym, subst, arith}
use Rattle.{confinement.specs.chain_from, confinement.specs.IsBelow, confinement.specs.places_left, std.proofs.lemmas.Option.slice_get_read}
use Rattle.{confinement.proofs.Chains.below_then, confinement.proofs.Chains.fewer_left, confinement.proofs.Chains.walks_on}
use Rattle.confinement.proofs.table.links_from.Goals as goal

pub walk-smaller : goal.walk-smaller
walk-smaller c =
    let kept = c.args.kept.now.items in
    let at = c.in-Some.at in
    let here = c.index-here.result.now in
    let within : at < length kept = subst (λ (r : Option ℕ). IsBelow r (length kept)) c.in-Some.is c.walk.invariant.0 in
    let has : slice_get kept at ≡ Some here = slice_get_read kept (length kept) at here refl within c.index-here.ensures in
    subst (λ (r : Option ℕ). places_left here.rest < places_left r) (sym c.in-Some.is)
    (fewer_left here.rest at (c.requires.goes_on at here has))

pub walk-preserved : goal.walk-preserved
walk-preserved c =
    let kept = c.args.kept.now.items in
    let at = c.in-Some.at in
    let here = c.index-here.result.now in
    let within : at < length kept = subst (λ (r : Option ℕ). IsBelow r (length kept)) c.in-Some.is c.walk.invariant.0 in
    let has : slice_get kept at ≡ Some here = slice_get_read kept (length kept) at here refl within c.index-here.ensures in (
      below_then here.rest at (length kept) (c.requires.goes_on at here has) (omega (arith, within)),
      walks_on kept c.requires.goes_on c.args.first at here c.walk.links.items c.push.new.self.items has c.in_ok-push.ensures.items
          (subst (λ (r : Option ℕ). c.walk.links.items ++ chain_from kept (length kept) r ≡ chain_from kept (length kept) c.args.first)
          c.in-Some.is c.walk.invariant.1),
    )
