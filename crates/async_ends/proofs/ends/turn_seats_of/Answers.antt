use Rattle.std.proofs.Common.{rules, ◌≡◌, ◌∙◌, ◌++◌, [], ◌∷◌, refl, sym, subst, map-id}
use Rattle.async_ends.specs.{seat_value, AreWrapped}
use Rattle.std.proofs.{lemmas.Iterator.Consumers.YieldsList-end, lemmas.Iterator.Adapters.YieldsList-from_vec}
use Rattle.{async_ends.specs.Tables.IsWrapped, async_ends.proofs.Closing.all_zip_push}
use Rattle.async_ends.proofs.ends.turn_seats_of.Goals as goal

pub loop-one-init : goal.loop-one-init
loop-one-init c = subst (λ l. AreWrapped l []) (sym c.in_ok-turn_seats.ensures.items) tt

pub loop-one-preserved : goal.loop-one-preserved
loop-one-preserved c =
    let s = c.one.inside in
    let is : seat_value s.frames s.cores s.made s.seat ≡ c.in-Some.one = c.one.view_is in
    let wrapped = subst (IsWrapped s.seat) is record { same = refl; is = c.one.invariant } in
    subst (λ l. AreWrapped l (c.loop-one.yielded ++ c.in-Some.one ∷ [])) (sym c.in_ok-push.ensures.items)
    (all_zip_push IsWrapped c.loop-one.turn_seats.items c.loop-one.yielded s.seat c.in-Some.one c.loop-one.invariant wrapped)

pub returns : goal.returns
returns c =
    let end = YieldsList-end (YieldsList-from_vec {s = c.into_iter-one-iterator.result} c.args.seats.items (search rules)
    (search rules)) c.loop-one.yielded c.loop-one.one-iterator c.loop-one.yielded_by c.next.result c.next.new.self c.in-None.is
    c.next.ensures.steps in
    subst (λ l. AreWrapped c.loop-one.turn_seats.items l) (sym (map-id c.loop-one.yielded) ∙ end.0) c.loop-one.invariant
