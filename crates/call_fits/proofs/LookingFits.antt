-- Where a step of a look-up leads to fits, and how many steps it leaves.
use Rattle.act_fits.specs as low
use low.act_states.proofs.{◌≡◌, ℕ, suc, if◌then◌else◌, ◌+◌, ◌%◌, ◌<◌, ◌≤◌, Bool, true, false, List, [], ◌∷◌, length, Option, Some, None}
use low.act_states.proofs.{IfSome, refl, sym, ◌∙◌, ap, subst, arith, Acquired, Capability, Entry, CapNames, is_link, end_by_link, place_end}
use low.act_states.proofs.{Look, AtRoot, AtLeaf, AtEntry, First, Name, at_place, pushed, want_of, with_found, names_after, next_in}
use low.act_states.proofs.{refusal_of, refuse, act_begun, met_name, met_free, met_held, plan_for, Reply}
use low.call_stages.specs.{FoundFits, names_left, steps_later, landed, found_more, next_by, named_one, took_found, took_end, took_look}
use low.act_states.specs.{has_rights, look_steps, act_steps, met_right}
use low.stage_look.specs.{EntryNames, LookFits, after_link, Lookup.FoundFits as PlaceFits, declared.look.Found.Found}
use low.call_plans.specs.declared.plans.Target.TheVariants.{Free, Held}
use low.call_plans.proofs.{Roots.count_led, Roots.after_more, Roots.pushed_one, FewNames.few_names, AfterNames.NextBy, AfterNames.one_more}
use low.act_states.specs.{declared.refusals.Refusal.Refusal, declared.own.Own.Own, declared.lookups.Met.TheVariants.Finds}
use low.act_states.specs.{declared.lookups.Met.TheVariants.Refused, declared.work.Work.TheVariants.Lookup, declared.work.WorkStep.WorkStep}
use low.call_stages.specs.Fits.{IsWanted, looks_later, after_reading, acts_later, left_of_look}
use Rattle.act_fits.proofs.{StepsFit.first_named, StepsFit.act_fits, DuesFit.StepFits, LandsFit.TookFits, LandsFit.Facts}
use Rattle.act_fits.proofs.{LandsFit.names_object, LandsFit.next_fits, LandsFit.landed_fits}
use low.{stage_look.proofs.LookLemmas.leaf_below, call_plans.specs.declared.plans.Target.Target, call_plans.specs.GoesBy.wants}
use low.{act_states.specs.declared.work.WorkStep.TheVariants.Goes, call_stages.specs.declared.stages.ActiveCall.ActiveCall}

module _ (own : Own) (a : ActiveCall) (facts : Facts own a) (none : a.counts ≡ []) (room : own.made < own.limit) where
  -- a refusal, and any step of the work
  pub no_counts : length a.counts ≡ 0
  no_counts = ap length none

  pub refused_fits : (left : ℕ) (r : Refusal) → 2 < left → TookFits own left a (landed a (refuse r))
  refused_fits left r some = let zero = no_counts in
      landed_fits own a a refl refl facts.found facts.acquired room 0 left (refuse r) (omega arith, tt) (omega arith)

  pub works_fits : (most left : ℕ) (step : WorkStep) → StepFits own.layout [] (steps_later own.layout.cores a) most step → 2 + most < left
      → TookFits own left a (landed a step)
  works_fits most left step fits some =
      let zero = no_counts in
      landed_fits own a a refl refl facts.found facts.acquired room most left step
      (subst (λ (xs : List Acquired). StepFits own.layout xs (steps_later own.layout.cores a) most step) (sym none) fits) (omega arith)

  -- one name more has led to a capability
  pub more_fits : (name : Name) (rest : List Name) (k : Capability) → names_left a ≡ name ∷ rest
      → IsWanted own.layout.frames name.number (want_of (with_found [] a.found) name) k
      → FoundFits own.layout.frames (plan_for a.call) (pushed a.found k)
  more_fits name rest k is wanted =
      let few : length a.found < 4 =
      let counted : length a.found + length (names_left a) ≡ length (plan_for a.call).names =
      count_led (IsWanted own.layout.frames) (plan_for a.call).names [] a.found facts.found in
      let most : length (plan_for a.call).names ≤ 4 = few_names a.call in
      let one : length (names_left a) ≡ suc (length rest) = ap length is in
      omega arith in
      subst (λ ks. FoundFits own.layout.frames (plan_for a.call) ks) (sym (pushed_one a.found k few))
      (one_more (IsWanted own.layout.frames) (plan_for a.call).names (plan_for a.call).target [] a.found k facts.found
      (subst (λ names. NextBy (IsWanted own.layout.frames) (next_in (with_found [] a.found) names (plan_for a.call).target) k) (sym is)
      wanted))

  pub left_more : (name : Name) (rest : List Name) (k : Capability) → names_left a ≡ name ∷ rest
      → names_left (found_more a (pushed a.found k)) ≡ rest
  left_more name rest k is =
      let few : length a.found < 4 =
      let counted : length a.found + length (names_left a) ≡ length (plan_for a.call).names =
      count_led (IsWanted own.layout.frames) (plan_for a.call).names [] a.found facts.found in
      let most : length (plan_for a.call).names ≤ 4 = few_names a.call in
      let one : length (names_left a) ≡ suc (length rest) = ap length is in
      omega arith in
      ap (names_after (plan_for a.call).names) (pushed_one a.found k few) ∙ after_more (plan_for a.call).names rest name a.found k is

  pub one_fits : (left : ℕ) (name : Name) (rest : List Name) (k : Capability) → names_left a ≡ name ∷ rest
      → IsWanted own.layout.frames name.number (want_of (with_found [] a.found) name) k
      → 2 + (look_steps rest (plan_for a.call).target + act_steps a.call own.layout.cores) < left
      → TookFits own left a (named_one own a (Finds k))
  one_fits left name rest k is wanted some =
      let more = found_more a (pushed a.found k) in
      let fits = more_fits name rest k is wanted in
      let zero = no_counts in
      landed_fits own a more refl refl fits facts.acquired room
      (look_steps (names_left more) (plan_for a.call).target + act_steps a.call own.layout.cores) left (next_by own more)
      (subst (λ (xs : List Acquired). StepFits own.layout xs (steps_later own.layout.cores more)
      (look_steps (names_left more) (plan_for a.call).target + act_steps a.call own.layout.cores) (next_by own more)) (sym none)
      (next_fits own more (record {
        own_fits = facts.own_fits;
        found = fits;
        acquired = facts.acquired;
        limits = facts.limits;
      })))
      (subst (λ (names : List Name). 2 + length a.counts + (look_steps names (plan_for a.call).target + act_steps a.call own.layout.cores)
      < left)
      (sym (left_more name rest k is)) (omega arith))

  right_if : (left : ℕ) (name : Name) (rest : List Name) (k : Capability) (right : Bool)
      → wants (with_found [] a.found) name.wanted k.kind ≡ true → names_left a ≡ name ∷ rest
      → CapNames own.layout.frames k → 2 + (look_steps rest (plan_for a.call).target + act_steps a.call own.layout.cores) < left
      → TookFits own left a (named_one own a (if right then Finds k else Refused Refusal.NoRight))
  right_if left name rest k true wanted is names some = one_fits left name rest k is (wanted, names) some
  right_if left name rest k false wanted is names some = refused_fits left Refusal.NoRight (omega arith)

  pub met_if : (left : ℕ) (name : Name) (rest : List Name) (k : Capability) (wanted : Bool)
      → wanted ≡ wants (with_found [] a.found) name.wanted k.kind → names_left a ≡ name ∷ rest
      → CapNames own.layout.frames k → 2 + (look_steps rest (plan_for a.call).target + act_steps a.call own.layout.cores) < left
      → TookFits own left a (named_one own a (if wanted then met_right name.needs.0 k else Refused Refusal.WrongCap))
  met_if left name rest k true wanted is names some =
      right_if left name rest k (has_rights k.rights name.needs.0) (sym wanted) is names some
  met_if left name rest k false wanted is names some = refused_fits left Refusal.WrongCap (omega arith)

  pub met_fits : (left : ℕ) (name : Name) (rest : List Name) (value : Entry)
      → names_left a ≡ name ∷ rest → EntryNames own.layout.frames value
      → 2 + (look_steps rest (plan_for a.call).target + act_steps a.call own.layout.cores) < left
      → TookFits own left a (named_one own a (met_name (want_of (with_found [] a.found) name) value))
  met_fits left name rest Entry.Free is names some = refused_fits left Refusal.Empty (omega arith)
  met_fits left name rest (Entry.Held k) is names some = met_if left name rest k _ refl is names some
  met_fits left name rest (Entry.Closing by) is names some = refused_fits left (Refusal.Busy by) (omega arith)
  met_fits left name rest (Entry.Quiescing stamp) is names some = refused_fits left Refusal.Empty (omega arith)

  pub first_is : IfSome (at_place a.found First) (CapNames own.layout.frames)
  first_is = first_named own.layout.frames (plan_for a.call).names [] a.found facts.found

  pub acts_on : (left : ℕ) (read : Option ℕ) (f : Found) → PlaceFits own.layout f → 2 + after_reading a.call own.layout.cores < left
      → TookFits own left a (landed a (act_begun own a.call a.found read (Some f)))
  acts_on left read f fits some =
      works_fits (after_reading a.call own.layout.cores) left _ (act_fits own _ a.call a.found read (Some f) facts.own_fits first_is
      (names_object own a facts) facts.limits fits) some

  pub free_fits : (left : ℕ) (f : Found) (value : Entry) → PlaceFits own.layout f → 2 + after_reading a.call own.layout.cores < left
      → TookFits own left a (landed a (met_free own a.call a.found a.read f value))
  free_fits left f (Entry.Held k) fits some = refused_fits left Refusal.Occupied (omega arith)
  free_fits left f (Entry.Closing by) fits some = refused_fits left (Refusal.Busy by) (omega arith)
  free_fits left f _ fits some = acts_on left a.read f fits some

  pub held_fits : (left : ℕ) (f : Found) (value : Entry) → PlaceFits own.layout f → 2 + after_reading a.call own.layout.cores < left
      → TookFits own left a (landed a (met_held own a.call a.found f value))
  held_fits left f (Entry.Held k) fits some = acts_on left None f fits some
  held_fits left f (Entry.Closing by) fits some = refused_fits left (Refusal.Busy by) (omega arith)
  held_fits left f _ fits some = refused_fits left Refusal.Empty (omega arith)

  -- the place that was looked for is found
  pub found_case : (left : ℕ) (names : List Name) (target : Target) (f : Found) → names_left a ≡ names → (plan_for a.call).target ≡ target
      → PlaceFits own.layout f
      → 2 + (looks_later names target + acts_later names a.call own.layout.cores) < left
      → TookFits own left a (took_found own a (next_in (with_found [] a.found) names target) f)
  found_case left (name ∷ rest) target f is to fits some =
      met_fits left name rest f.value is fits.names (subst (λ (t : Target). 2 + (look_steps rest t + act_steps a.call own.layout.cores) <
      left) (sym to) some)
  found_case left [] (Free spot) f is to fits some = free_fits left f f.value fits (omega arith)
  found_case left [] (Held spot) f is to fits some = held_fits left f f.value fits (omega arith)
  found_case left [] _ f is to fits some = refused_fits left Refusal.Raced (omega arith)

  pub place_fits : (left : ℕ) (look : Look) (node index word : ℕ) (shown : Option Entry) → IfSome shown (EntryNames own.layout.frames)
      → node < own.layout.frames → index < 64
      → 2 + steps_later own.layout.cores a < left → TookFits own left a (took_end own a look (place_end node index word shown))
  place_fits left look node index word None names below small some = refused_fits left (refusal_of Reply.Raced) (omega arith)
  place_fits left look node index word (Some Entry.Free) names below small some =
      found_case left (names_left a) (plan_for a.call).target _ refl refl (record { node = below; entry = small; names = tt }) some
  place_fits left look node index word (Some (Entry.Held k)) names below small some =
      found_case left (names_left a) (plan_for a.call).target _ refl refl (record { node = below; entry = small; names = names }) some
  place_fits left look node index word (Some (Entry.Closing by)) names below small some =
      refused_fits left (refusal_of (Reply.Busy by)) (omega arith)
  place_fits left look node index word (Some (Entry.Quiescing stamp)) names below small some =
      found_case left (names_left a) (plan_for a.call).target _ refl refl (record { node = below; entry = small; names = tt }) some

  pub link_fits : (left : ℕ) (linked : Bool) (top number : ℕ) (k : Capability) → linked ≡ is_link k.kind → CapNames own.layout.frames k
      → 3 + steps_later own.layout.cores a < left
      → TookFits own left a (took_end own a (after_link linked top number k.frame) (end_by_link linked))
  link_fits left true top number k is names some =
      works_fits (1 + steps_later own.layout.cores a) left (Goes (Lookup (AtLeaf k.frame number)))
      (leaf_below own.layout.frames k.kind k.frame k.arg (sym is) names, omega arith, refl) (omega arith)
  link_fits left false top number k is names some = refused_fits left (refusal_of Reply.NoSlot) (omega arith)

  pub look_fits : (look : Look) (word : ℕ) (shown : Option Entry) → LookFits own.layout look → IfSome shown (EntryNames own.layout.frames)
      → TookFits own (2 + 0 + (left_of_look look + steps_later own.layout.cores a)) a (took_look own a look word shown)
  look_fits (AtRoot top number) word None look names = refused_fits _ (refusal_of Reply.Raced) (omega arith)
  look_fits (AtRoot top number) word (Some Entry.Free) look names = refused_fits _ (refusal_of Reply.NoSlot) (omega arith)
  look_fits (AtRoot top number) word (Some (Entry.Held k)) look names = link_fits _ _ top number k refl names (omega arith)
  look_fits (AtRoot top number) word (Some (Entry.Closing by)) look names = refused_fits _ (refusal_of (Reply.Busy by)) (omega arith)
  look_fits (AtRoot top number) word (Some (Entry.Quiescing stamp)) look names = refused_fits _ (refusal_of Reply.NoSlot) (omega arith)
  look_fits (AtLeaf leaf number) word shown look names =
      place_fits _ (AtLeaf leaf number) leaf (number % 64) word shown names look (omega arith) (omega arith)
  look_fits (AtEntry top index) word shown look names =
      place_fits _ (AtEntry top index) top index word shown names look.0 look.1 (omega arith)
