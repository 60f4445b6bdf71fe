-- The core and its call after a step stay in their ranges.
use Rattle.act_fits.specs.act_states.proofs.{◌≡◌, ℕ, ◌+◌, ◌<◌, ◌≤◌, Option, Some, refl, sym, ◌∙◌, ap, subst, arith, bound_of, InLimits}
use Rattle.act_fits.specs.act_states.proofs.{Reply, calls_counted, found, own_changed}
use Rattle.act_fits.specs.call_stages.specs.{left_of, IsActive, CallFits, IsOwn, IsCore, left_for, GoesOn, Decides, took, told, call_after}
use Rattle.act_fits.specs.act_states.specs.declared.own.OwnChange.TheVariants.{Ticks}
use Rattle.act_fits.specs.call_stages.specs.{declared.stages.ActiveCall.ActiveCall, declared.stages.Told.Told}
use Rattle.act_fits.proofs.{DuesFit.ChangeFits, LandsFit.IsNext, LandsFit.TookFits}
use Rattle.call_fits.proofs.{Landing.told_goes, Landing.told_decides, Landing.told_changes, Fitting.took_fits}
use Rattle.{act_fits.specs.call_stages.specs.Changes, act_fits.specs.act_states.specs.declared.own.Own.Own}
use Rattle.{act_fits.specs.act_states.specs.declared.own.OwnChange.OwnChange}

-- The call after a step is the core's call.
active_on : (own : Own) (made : ℕ) (old a : ActiveCall) → IsActive own old → IsNext own made (left_of own.layout.cores old) old a
    → IsActive (record own { made = made }) a
active_on own made old a active next = record {
  limits = subst InLimits (sym next.call) active.limits;
  found = next.found;
  first = next.first;
  stage = next.stage;
  acquired = next.acquired;
  counts = next.counts;
  room = next.room;
  steps =
      let before : old.steps + left_of own.layout.cores old ≤ bound_of old.call own.layout.cores = active.steps in
      let one : a.steps ≡ old.steps + 1 = next.steps in
      let fewer : left_of own.layout.cores a < left_of own.layout.cores old = next.fewer in
      let same : bound_of a.call own.layout.cores ≡ bound_of old.call own.layout.cores = ap (λ call. bound_of call own.layout.cores)
      next.call in
      omega arith;
}

-- What a decision changes beside leaves the core in its ranges.
changed_on : (own : Own) (change : OwnChange) → IsOwn own → ChangeFits own.layout change → IsOwn (own_changed own change)
changed_on own (Ticks charged owed) h fits = search h
changed_on own _ h fits = search h

own_on : (own : Own) (made : ℕ) → IsOwn own → made ≤ own.limit → IsOwn (record own { made = made })
own_on own made h counted = search h

-- A core after a step that goes on, and after one that decides.
pub goes_on : (own : Own) (active : Option ActiveCall) (a new : ActiveCall) (found : ℕ) → IsCore (record { own = own; active = active })
    → active ≡ Some a
    → Told.Going ≡ told (took own a found) → new ≡ call_after a (took own a found)
    → IsCore (record { own = own; active = Some new }) × (left_of own.layout.cores new < left_for own.layout.cores active)
goes_on own active a new found h is going next =
    let fits : IsActive own a = subst (CallFits own) is h.active in
    let leads : TookFits own (left_of own.layout.cores a) a (GoesOn new) =
    subst (TookFits own (left_of own.layout.cores a) a) (told_goes a (took own a found) going ∙ ap GoesOn (sym next))
    (took_fits own a found h.own fits) in (
      record { own = h.own; active = active_on own own.made a new fits leads },
      subst (λ o. left_of own.layout.cores new < left_for own.layout.cores o) (sym is) leads.fewer,
    )

pub decides_on : (own : Own) (active : Option ActiveCall) (a new : ActiveCall) (r : Reply) (counted found : ℕ)
    → IsCore (record { own = own; active = active }) → active ≡ Some a
    → Told.Decided r ≡ told (took own a found) → new ≡ call_after a (took own a found) → counted ≡ calls_counted r
    → IsCore (record { own = record own { made = own.made + counted }; active = Some new }) ×
    (left_of own.layout.cores new < left_for own.layout.cores active)
decides_on own active a new r counted found h is decided next count =
    let fits : IsActive own a = subst (CallFits own) is h.active in
    let leads : TookFits own (left_of own.layout.cores a) a (Decides r new) =
    subst (TookFits own (left_of own.layout.cores a) a) (told_decides a r (took own a found) decided ∙ ap (Decides r) (sym next))
    (took_fits own a found h.own fits) in (
      subst (λ n. IsCore (record { own = record own { made = own.made + n }; active = Some new })) (sym count)
          (record {
            own = own_on own (own.made + calls_counted r) h.own leads.counted;
            active = active_on own (own.made + calls_counted r)
                a new fits leads;
          }),
      subst (λ o. left_of own.layout.cores new < left_for own.layout.cores o) (sym is) leads.fewer,
    )

made_changed : (own : Own) (change : OwnChange) → (own_changed own change).made ≡ own.made
made_changed own (Ticks charged owed) = refl
made_changed own _ = refl

limit_changed : (own : Own) (change : OwnChange) → (own_changed own change).limit ≡ own.limit
limit_changed own (Ticks charged owed) = refl
limit_changed own _ = refl

-- a call fits its core still where a decision changes what the core has of its own beside
active_changed : (own : Own) (change : OwnChange) (made : ℕ) (a : ActiveCall) → IsActive (record own { made = made }) a
    → IsActive (record (own_changed own change) { made = made }) a
active_changed own (Ticks charged owed) made a on = search on
active_changed own _ made a on = search on

pub changes_on : (own : Own) (active : Option ActiveCall) (a new : ActiveCall) (r : Reply) (change : OwnChange) (counted found : ℕ)
    → IsCore (record { own = own; active = active }) → active ≡ Some a
    → Told.Changed r change ≡ told (took own a found) → new ≡ call_after a (took own a found) → counted ≡ calls_counted r
    → IsCore (record { own = record (own_changed own change) { made = (own_changed own change).made + counted }; active = Some new }) ×
    (left_of own.layout.cores new < left_for own.layout.cores active)
changes_on own active a new r change counted found h is decided next count =
    let changed : Own = own_changed own change in
    let made : ℕ = own.made + calls_counted r in
    let fits : IsActive own a = subst (CallFits own) is h.active in
    let leads : TookFits own (left_of own.layout.cores a) a (Changes r change new) =
    subst (TookFits own (left_of own.layout.cores a) a) (told_changes a r change (took own a found) decided ∙ ap (Changes r change)
    (sym next)) (took_fits own a found h.own fits) in
    let within : made ≤ changed.limit = subst (λ l. made ≤ l) (sym (limit_changed own change)) leads.0.counted in
    let core : IsCore (record { own = record changed { made = made }; active = Some new }) = record {
      own = own_on changed made (changed_on own change h.own leads.1) within;
      active = active_changed own change made new (active_on own made a new fits leads.0);
    } in (
      subst (λ n. IsCore (record { own = record changed { made = changed.made + n }; active = Some new })) (sym count)
          (subst (λ m. IsCore (record { own = record changed { made = m + calls_counted r }; active = Some new }))
          (sym (made_changed own change)) core),
      subst (λ o. left_of own.layout.cores new < left_for own.layout.cores o) (sym is) leads.0.fewer,
    )

layout_changed : (own : Own) (change : OwnChange) → (own_changed own change).layout ≡ own.layout
layout_changed own (Ticks charged owed) = refl
layout_changed own _ = refl

pub changes_to : (own own' : Own) (active : Option ActiveCall) (a new : ActiveCall) (r : Reply) (change : OwnChange) (counted found : ℕ)
    → IsCore (record { own = own; active = active }) → active ≡ Some a
    → Told.Changed r change ≡ told (took own a found) → new ≡ call_after a (took own a found) → counted ≡ calls_counted r
    → own' ≡ own_changed own change
    → IsCore (record { own = record own' { made = own'.made + counted }; active = Some new }) ×
    (left_of own'.layout.cores new < left_for own.layout.cores active)
changes_to own own' active a new r change counted found h is decided next count changed =
    let on = changes_on own active a new r change counted found h is decided next count in (
      subst (λ k. IsCore (record { own = record k { made = k.made + counted }; active = Some new })) (sym changed) on.0,
      subst (λ (n : ℕ). left_of n new < left_for own.layout.cores active)
          (sym (ap (λ k. k.layout.cores) changed ∙ ap (λ l. l.cores) (layout_changed own change))) on.1,
    )
