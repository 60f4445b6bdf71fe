-- What count words tell of stamps while calls hold them: the stamp that a word will show, by the phase of the call that holds it, is that
-- of what it settles to. So the newest that the count words of a frame will show is that of its last grace period.
use Rattle.time_laws.specs.step_ways.proofs.{◌≡◌, ◌≢◌, inl, inr, ℕ, ℤ, pos, negsuc, ◌+ℤ◌, ◌+◌, ◌*◌, ◌-◌, ◌^◌, ◌≤◌, ◌<◌, ◌&&◌, Bool, true}
use Rattle.time_laws.specs.step_ways.proofs.{false, max, if◌then◌else◌, List, [], ◌∷◌, Option, Some, None, arith, refl, sym, ◌∙◌, ap, subst}
use Rattle.time_laws.specs.step_ways.proofs.{is_some, All, eqb-true, false≢true, true≢false, eq-eqb, ne_eqb, InLimits, Setting, IsSetting}
use Rattle.time_laws.specs.step_ways.proofs.{Call, Retype, Reply, Value, CountFits, count_of_word, word_of_count, CountWord, Hold, Pinned}
use Rattle.time_laws.specs.step_ways.proofs.{Closed, CountAt, FrameOf, State, refs, Change, Found, IsFoundAnd, Judged, Refused, MayReply}
use Rattle.time_laws.specs.step_ways.proofs.{begins, change_of, changed as change_made, counted, state_by, grace_refs, opened, count_in}
use Rattle.time_laws.specs.step_ways.proofs.{counters, IsLegal, MayDecide, marked_by, count_mark, hold_mark, begins_at, begins_in, stamp}
use Rattle.time_laws.specs.step_ways.proofs.{Step, Trace, Phase, Open, phase, after_enter, after_decide, state_after, state_before}
use Rattle.time_laws.specs.step_ways.proofs.{state_decided, state_returned, last_left, phase-other, stamp-begins, run_of, frozen}
use Rattle.time_laws.specs.step_ways.proofs.{core_after, told_by, took_at, Absorbed, ActiveCall, decided_in, later, unheld, stamp_of_change}
use Rattle.time_laws.specs.step_ways.proofs.{committed, Invariant, is_done, IsCount, limits_of, counted_refs, call_is, is_active, residue}
use Rattle.time_laws.specs.kernel_history.proofs.{Unheld, IfFound, plain_phase, all_counters, Decided, entered_events, entered_phase}
use Rattle.time_laws.specs.kernel_laws.proofs.{begun, begins_in as begun_in, found_by, IsOpen, open_limits}
use Rattle.time_laws.specs.history_laws.specs.{Untypes, has_cleared, is_carried_out, StampsTell}
use Rattle.std.proofs.{lemmas.List.Elements.All-head, lemmas.List.Elements.All-tail, lemmas.Int.ints}
use Rattle.time_laws.specs.kept_facts.proofs.{Few.few_after, CountSums.counter_once, CountSums.newest_most}
use Rattle.time_laws.specs.frame_words.proofs.ResidueLemmas.{past, residue_wrapped, wrapped_fits}
use Rattle.time_laws.specs.history_laws.specs.Stamps.{drawn_by, newest_then, stamp_then, will_date}
use Rattle.flight_laws.proofs.CountHolds.{before_is, entered_is, frozen_say, kept, no_return, pinned_say}
use Rattle.flight_laws.proofs.AcquiredCounts.{HasCount, active_now, decides_told, entry, found, has_count, settles_to, told}
use Rattle.flight_laws.proofs.CountsTold.{holder_below, mark_now, phase_now, settled_open, settled_other, settled_own, showed, showed_own}
use Rattle.flight_laws.proofs.DrawnStamps.{DoneSmall, OkDrawn, acquire_drawn, stage_drawn}
use Rattle.time_laws.specs.call_stages.proofs.Answering.{IsSmall}
use Rattle.flight_laws.proofs.SettledCounts.{cleared_is, closed_shows, count_changes, free_shows, other_same, pinned_shows, settled_shows}
use Rattle.{time_laws.specs.kernel_history.proofs.entered_run, std.proofs.lemmas.Bool.cases_eq, std.proofs.lemmas.Bool.cases_lt}
use Rattle.{time_laws.specs.flight.specs.cores_after, time_laws.specs.flight.specs.IsMade, time_laws.specs.core_invariant.specs.newest_of}
use Rattle.{time_laws.specs.core_invariant.specs.stamp_in, time_laws.specs.kernel_history.specs.◌-ℤ◌}
use Rattle.{time_laws.specs.kernel_history.specs.DecidesBy, time_laws.specs.kernel_invariant.proofs.Refs.RefsBy}
use Rattle.{time_laws.specs.kernel_invariant.proofs.Refs.refs_by, time_laws.specs.found_stays.proofs.SparesRuns.among}
use Rattle.{time_laws.specs.trace_laws.proofs.Opens.opens, time_laws.specs.stage_pins.specs.declared.pin.Pin.TheVariants.AtCompare}
use Rattle.{time_laws.specs.stage_pins.specs.Counts.changed, time_laws.specs.act_states.specs.Dues.IsSmallChange}
use Rattle.{time_laws.specs.flight.proofs.Made.made_stands, time_laws.specs.flight.proofs.Made.made_times}
use Rattle.{flight_laws.proofs.HeldCounts.all_among, flight_laws.proofs.FrozenCounts.cleared_if, flight_laws.proofs.SettledCounts.shows}
use Rattle.time_laws.specs.spk_nums.specs.declared.kinds.FrameKind.TheVariants as frame_kind
use Rattle.time_laws.specs.spk_nums.specs.declared.replies.Reply.TheVariants as reply
use Rattle.time_laws.specs.frame_words.proofs.CountLemmas as counts
use Rattle.time_laws.specs.call_stages.specs.declared.stages.Absorbed.TheVariants as told_as

same_some : {A : Type 0} (x y : A) → Some x ≡ Some y → x ≡ y
same_some x y h = cc

-- Where references to a frame fall, a grace period of it begins.
falls_found : (s : State) (c : ℕ) (v : Value) (x : Judged Change) → IfFound x (RefsBy s) → IsFoundAnd x (λ k. k.value ≡ v) → (f : ℕ)
    → refs (counted (change_made s x) c) f < refs s f → begun_in x (FrameOf f) ≡ true
falls_found s c v (Refused r) by ok f less = absurd ok
falls_found s c v (Found change) by ok f less =
    let a = grace_refs change.next (begun s change.begins change.next).grace f in
    let b = by f in
    let d = counted_refs (begun s change.begins change.next) c f in
    among f change.begins (omega (arith, less, a, b, d))

falls_begin : (s : State) (o : ℕ → Bool) (c : ℕ) (call : Call) (v : Value) → IsOpen s o c → InLimits call → MayReply s c call (reply.Ok v)
    → (f : ℕ) → refs (state_by s c call (reply.Ok v)) f < refs s f → begins s c call (reply.Ok v) (FrameOf f) ≡ true
falls_begin s o c call v h lim may f less =
    falls_found s c v (change_of s c call) (found_by s c call (RefsBy s) (refs_by s o c h call lim)) may.1.1 f less

-- A count that falls by two at most is none that rises by as many as the references to a frame, modulo 2 ^ 16.
less_not : (v : ℤ) (n d : ℕ) → n ≤ 1 → d ≤ 32848 → residue (v +ℤ negsuc n) ≡ residue (v +ℤ pos d) → ⊥
less_not v n d small few same =
    let one = past (v +ℤ negsuc n) in
    let two = past (v +ℤ pos d) in
    by (residue (v +ℤ negsuc n)) (residue (v +ℤ pos d)) one.up one.down two.up two.down same one.is two.is
  where
    by : (r q a b x y : ℕ) → r ≡ q → (v +ℤ negsuc n) +ℤ pos (2 ^ 16 * b) ≡ pos (r + 2 ^ 16 * a)
        → (v +ℤ pos d) +ℤ pos (2 ^ 16 * y) ≡ pos (q + 2 ^ 16 * x) → ⊥
    by r q a b x y is one two = absurd (omega (arith, ints, small, few, is, one, two))

-- The stamp that is stored with a count that changes.
later_small : (stamp : ℕ) (change : ℤ) (drawn : Option ℕ) → stamp < 2 ^ 43 → IsSmall drawn
    → later stamp (stamp_of_change change drawn) < 2 ^ 43
later_small stamp (negsuc n) (Some x) small fits = omega (arith, small, fits)
later_small stamp _ _ small fits = small

-- What has cleared a frame makes it untyped.
untypes_cleared : (f : ℕ) (p : Phase) → has_cleared f p ≡ true → Untypes f p
untypes_cleared f (Decided (Retype r g frame_kind.Untyped) (reply.Ok v)) is =
    record { range = r; is = ap (λ (n : ℕ). Some (Retype r n frame_kind.Untyped)) (sym (eqb-true f g is)) }
untypes_cleared f _ is = absurd (false≢true is)

-- A step of the core that has acquired the count.
module _ (setup : Setting) (setting : IsSetting setup) (f k : ℕ) (t : Trace) (e : Step) (made : IsMade setup (e ∷ t)) (v : CountWord)
    (pinned : v.hold ≡ Pinned e.core) (is : shows setup setting f (e ∷ t) k ≡ Some v) where
  abbrev p : Phase
  p = phase t e.core

  before : Invariant setup (cores_after setup t) t
  before = made_stands setup setting t made.0

  later_on : Invariant setup (cores_after setup (e ∷ t)) (e ∷ t)
  later_on = made_stands setup setting (e ∷ t) made

  its_mark : marked_by setup (e ∷ t) (CountAt f k) ≡ Some e.core
  its_mark = mark_now setup setting f k t e made v pinned is

  its_entry : e.enters ≡ None
  its_entry = entry setup setting f k t e made its_mark

  entered : after_enter e.enters p ≡ p
  entered = entered_is setup setting f k t e made its_mark

  abbrev was : ℕ → Option CountWord
  was = settled_shows setup setting f t

  abbrev now : ℕ → Option CountWord
  now = settled_shows setup setting f (e ∷ t)

  abbrev newest_was : ℕ
  newest_was = stamp setup t (FrameOf f)

  k_below : k < setup.cores
  k_below =
      let own = (pinned_say setup setting (e ∷ t) made f k e.core v is pinned).own in let here = made.1.is_core in omega (arith, own, here)

  stamp_most : (j : ℕ) → j < setup.cores → stamp_in (was j) ≤ newest_was
  stamp_most j below =
      let newest : newest_of was (counters setup.cores) ≡ newest_was =
      ap (λ l. newest_of was (counters l.cores)) (sym (limits_of setup t)) ∙ (before.sums f).newest in
      let most = newest_most was (counters setup.cores) j (let once = counter_once setup.cores j below in omega (arith, once)) in
      omega (arith, newest, most)

  abbrev begins_now : Bool
  begins_now = begins_at setup t e (FrameOf f)

  abbrev drawn : Option Reply → Bool → ℕ
  drawn o b = if is_some o then (if b then e.found else 0) else drawn_by setup t e.core f

  drawn_is : drawn_by setup (e ∷ t) e.core f ≡ drawn e.decides begins_now
  drawn_is = ap (λ b. if b && is_some e.decides then (if begins_now then e.found else 0) else drawn_by setup t e.core f)
      (eq-eqb e.core e.core refl)

  -- it decides `ok`
  module _ (x : Value) (decides : e.decides ≡ Some (reply.Ok x)) (may : DecidesBy setup t e (reply.Ok x) (after_enter e.enters p)) where
    is_open : p ≡ Open may.call
    is_open = sym entered ∙ may.is_open

    shown_then : was k ≡ Some (unheld v.count v.stamp)
    shown_then = settled_open setup setting f k t e made v pinned is may.call is_open

    v_fits : CountFits v
    v_fits = (counts.spelling.spells (last_left setup (e ∷ t) (CountAt f k)) v is).0

    -- a grace period of the frame begins
    found_now : begins_now ≡ true → newest_was < e.found
    found_now begins_it =
        let past = (before.graces (FrameOf f)).past in
        let draws = ((made_times setup setting t e made).draws (FrameOf f) begins_it).0 in
        omega (arith, past, draws)

    begun_stamp : begins_now ≡ true → stamp_in (now k) ≡ max v.stamp e.found
    begun_stamp begins_it =
        let newest : newest_of now (counters setup.cores) ≡ e.found =
        ap (λ l. newest_of now (counters l.cores)) (sym (limits_of setup (e ∷ t))) ∙ (later_on.sums f).newest
        ∙ stamp-begins setup e t (FrameOf f) begins_it in
        let less = found_now begins_it in
        let reached = newest_here newest less in
        let own : stamp_in (was k) ≡ v.stamp = ap stamp_in shown_then in
        let most = stamp_most k k_below in
        omega (arith, less, reached, own, most)
      where
        others : newest_was < e.found → (j : ℕ) → j ≢ k → j < setup.cores → stamp_in (now j) < e.found
        others less j other below =
            let same : stamp_in (now j) ≡ stamp_in (was j) = ap stamp_in (other_same setup setting f k t e made v is pinned j other) in
            let most = stamp_most j below in
            omega (arith, less, same, most)

        within_list : (cs : List ℕ) → All (λ (j : ℕ). j ≢ k → stamp_in (now j) < e.found) cs
            → newest_of now cs ≡ e.found → 1 ≤ e.found → stamp_in (now k) ≡ e.found
        within_list [] all newest some = absurd (omega (arith, newest, some))
        within_list (c ∷ cs) all newest some = elim (cases_eq (stamp_in (now c)) e.found) [
          | inl here ↦ elim (cases_eq c k) [
            | inl same ↦ ap (λ (j : ℕ). stamp_in (now j)) (sym same) ∙ here
            | inr other ↦ absurd (let less = All-head (λ (j : ℕ). j ≢ k → stamp_in (now j) < e.found) c cs all other in
                omega (arith, less, here))
          ]
          | inr other ↦ within_list cs (All-tail (λ (j : ℕ). j ≢ k → stamp_in (now j) < e.found) c cs all)
              (rest (stamp_in (now c)) (newest_of now cs) newest other) some
        ]
          where
            rest : (a b : ℕ) → max a b ≡ e.found → a ≢ e.found → b ≡ e.found
            rest a b newest other = omega (arith, newest, other)

        newest_here : newest_of now (counters setup.cores) ≡ e.found → newest_was < e.found → stamp_in (now k) ≡ e.found
        newest_here newest less = within_list (counters setup.cores)
            (all_counters (λ (j : ℕ). j ≢ k → stamp_in (now j) < e.found) setup.cores (λ j below other. others less j other below))
            newest (omega (arith, less))

    -- none begins: references to the frame do not fall, so the count does not, and no stamp is stored with it
    begins_is : begins_now ≡ begins (state_before setup t e) e.core may.call (reply.Ok x) (FrameOf f)
    begins_is = ap (λ o. begins_in o (after_enter e.enters p) (state_before setup t e) e.core (FrameOf f)) decides
        ∙ ap (λ q. begins_in (Some (reply.Ok x)) q (state_before setup t e) e.core (FrameOf f)) may.is_open

    legal : IsLegal setup (e ∷ t)
    legal = later_on.legal

    state_is : state_after setup (e ∷ t) ≡ state_by (state_before setup t e) e.core may.call (reply.Ok x)
    state_is =
        ap (λ q. state_returned q (state_decided e.decides (after_enter e.enters p) (state_before setup t e) e.core) e.core)
        (no_return setup setting f k t e made its_mark)
        ∙ ap (λ o. state_decided o (after_enter e.enters p) (state_before setup t e) e.core) decides
        ∙ ap (λ q. state_decided (Some (reply.Ok x)) q (state_before setup t e) e.core) may.is_open

    limits : InLimits may.call
    limits = open_limits setup (entered_events t e) e.core may.call
        (entered_run setup t e legal.0 legal.1 (run_of setup t legal.0)) (entered_phase t e ∙ ap plain_phase may.is_open)

    no_fall : begins_now ≡ false → refs (state_after setup t) f ≤ refs (state_after setup (e ∷ t)) f
    no_fall none = elim (cases_lt (refs (state_after setup (e ∷ t)) f) (refs (state_after setup t) f)) [
      | inl less ↦ absurd (true≢false (sym (falls_begin (state_before setup t e) (opened (entered_events t e)) e.core may.call x
          (opens setup setting t legal.0 e legal.1 may.call may.is_open) limits may.permitted f
          (subst (λ (s : State). refs (state_by (state_before setup t e) e.core may.call (reply.Ok x)) f < refs s f)
          (sym (before_is setup setting f k t e made its_mark))
          (subst (λ (s : State). refs s f < refs (state_after setup t) f) state_is less))) ∙ sym begins_is ∙ none))
      | inr past ↦ past
    ]

    has : HasCount (cores_after setup (e ∷ t) e.core).active f k v
    has = has_count setup setting f k e.core v pinned (e ∷ t) made is

    ok_drawn : OkDrawn (cores_after setup (e ∷ t) e.core).active (told_as.Decided (reply.Ok x))
    ok_drawn = elim (kept setup setting f k t e made its_mark) [
      | inl same ↦
          let had = has_count setup setting f k e.core v pinned t made.0 (ap count_of_word (sym same) ∙ is) in
          told_so had.a had.active (stage_drawn (cores_after setup t e.core).own had.a had.x had.among had.a.stage
          (found setup setting t e made its_entry)
          (is_active setup setting (cores_after setup t) t before e.core made.1.is_core had.a had.active).counts)
      | inr takes ↦ elim takes.left [
        | inl left ↦
            let acquires = left.1.acquires in
            told_so acquires.a acquires.active
            (subst (λ s. OkDrawn (core_after (cores_after setup t e.core).own
            (took_at (cores_after setup t e.core).own acquires.a s
            (found setup setting t e made its_entry))).active
            (told_by
            (took_at (cores_after setup t e.core).own acquires.a s
            (found setup setting t e made its_entry))))
            (sym acquires.stage)
            (acquire_drawn (cores_after setup t e.core).own acquires.a (AtCompare f k takes.count takes.stamp) acquires.change acquires.act
            (found setup setting t e made its_entry)))
        | inr left ↦ absurd (not_frozen takes.count takes.stamp (sym left.0 ∙ is))
      ]
    ]
      where
        not_frozen : (count : ℤ) (at : ℕ) → Some (frozen e.core count at) ≡ Some v → ⊥
        not_frozen count at h = apart (ap (λ (w : CountWord). w.hold) (same_some _ v h) ∙ pinned)
          where
            apart : Closed e.core ≡ Pinned e.core → ⊥
            apart h = cc

        is_told : (y : Absorbed)
            → decided_in y ≡ Some (reply.Ok x)
            → y ≡ told_as.Decided (reply.Ok x)
        is_told (told_as.Decided r) h =
            ap (λ q. told_as.Decided q) (same_some r (reply.Ok x) h)
        is_told _ h = absurd (cc)

        told_so : (a : ActiveCall) (active : (cores_after setup t e.core).active ≡ Some a)
            → OkDrawn (core_after (cores_after setup t e.core).own (took_at (cores_after setup t e.core).own a a.stage
            (found setup setting t e made its_entry))).active (told setup setting t e made its_entry a active)
            → OkDrawn (cores_after setup (e ∷ t) e.core).active (told_as.Decided (reply.Ok x))
        told_so a active fits = subst (OkDrawn (cores_after setup (e ∷ t) e.core).active)
            (is_told (told setup setting t e made its_entry a active)
            (sym (decides_told setup setting t e made its_entry a active) ∙ decides))
            (subst (λ o. OkDrawn o (told setup setting t e made its_entry a active))
            (sym (active_now setup setting t e made its_entry a active)) fits)

    -- so it is what its commit stores
    record IsStored : Type 0 where
      drawn_then : Option ℕ
      small : IsSmall drawn_then
      done : is_done has.a.stage ≡ Some drawn_then

    stored : IsStored
    stored = by (is_done has.a.stage) refl (subst (λ o. OkDrawn o (told_as.Decided (reply.Ok x))) has.active ok_drawn)
      where
        by : (o : Option (Option ℕ)) → is_done has.a.stage ≡ o → DoneSmall o → IsStored
        by None at fits = absurd fits
        by (Some y) at fits = record { drawn_then = y; small = fits; done = at }

    abbrev change : ℤ
    change = has.x.change

    shown_now : now k ≡ Some (unheld (changed v.count change) (later v.stamp (stamp_of_change change stored.drawn_then)))
    shown_now =
        ap count_of_word (settles_to setup setting (e ∷ t) made f k e.core v is pinned has.a has.active has.x has.among has.word
        ∙ ap (λ o. committed o has.x) stored.done
        ∙ ap (λ w. word_of_count (unheld (changed w.count change) (later w.stamp (stamp_of_change change stored.drawn_then)))) has.found)
        ∙ counts.spelling.reads (unheld (changed v.count change) (later v.stamp (stamp_of_change change stored.drawn_then)))
        (tt, wrapped_fits (v.count +ℤ change), later_small v.stamp change stored.drawn_then v_fits.2 stored.small)

    small_change : IsSmallChange change
    small_change = (all_among (IsCount setup (e ∷ t) e.core has.a.call) has.a.counts has.x
        (call_is setup setting (cores_after setup (e ∷ t)) (e ∷ t) later_on e.core made.1.is_core has.a has.active).counts has.among).small

    few_now : refs (state_after setup (e ∷ t)) f ≤ 32848
    few_now = few_after setup setting (e ∷ t) legal f

    rises_by : (n m : ℕ) → n ≤ m → (pos m -ℤ pos n) ≡ pos (m - n)
    rises_by n m low = omega (arith, ints, low)

    unbegun_stamp : begins_now ≡ false → stamp_in (now k) ≡ max v.stamp 0
    unbegun_stamp none = ap stamp_in shown_now ∙ by change refl
      where
        by : (z : ℤ) → change ≡ z → later v.stamp (stamp_of_change z stored.drawn_then) ≡ max v.stamp 0
        by (pos n) at = omega arith
        by (negsuc n) at = absurd (less_not v.count n (refs (state_after setup (e ∷ t)) f - refs (state_after setup t) f)
            (subst IsSmallChange at small_change) (let few = few_now in omega (arith, few))
            (ap (λ z. residue (v.count +ℤ z)) (sym at) ∙ sym (residue_wrapped (v.count +ℤ change)) ∙ sym (ap residue (ap count_in shown_now))
            ∙ ap residue (count_changes setup setting f k t e made v is pinned)
            ∙ residue_wrapped (count_in (was k) +ℤ (pos (refs (state_after setup (e ∷ t)) f) -ℤ pos (refs (state_after setup t) f)))
            ∙ ap (λ o. residue (count_in o +ℤ (pos (refs (state_after setup (e ∷ t)) f) -ℤ pos (refs (state_after setup t) f)))) shown_then
            ∙ ap (λ z. residue (v.count +ℤ z))
            (rises_by (refs (state_after setup t) f) (refs (state_after setup (e ∷ t)) f) (no_fall none))))

    ok_dated : stamp_in (now k) ≡ max v.stamp (drawn_by setup (e ∷ t) e.core f)
    ok_dated = by begins_now refl ∙ ap (max v.stamp) (sym (drawn_is ∙ ap (λ o. drawn o begins_now) decides))
      where
        by : (b : Bool) → begins_now ≡ b → stamp_in (now k) ≡ max v.stamp (if begins_now then e.found else 0)
        by true at = begun_stamp at ∙ ap (λ b. max v.stamp (if b then e.found else 0)) (sym at)
        by false at = unbegun_stamp at ∙ ap (λ b. max v.stamp (if b then e.found else 0)) (sym at)

  abbrev Dated : Trace → Type 0
  Dated u = stamp_in (settled_shows setup setting f u k) ≡ max v.stamp (drawn_by setup u e.core f)

  pub dated_own : (shows setup setting f t k ≡ Some v → is_carried_out p ≡ true → Dated t)
      → is_carried_out (phase (e ∷ t) e.core) ≡ true → Dated (e ∷ t)
  dated_own rest carried = by e.decides refl later_on.legal.1.decides
    where
      now_is : phase (e ∷ t) e.core ≡ after_decide e.decides p
      now_is = phase_now setup setting f k t e made v pinned is

      by_reply : (r : Reply) → e.decides ≡ Some r → DecidesBy setup t e r (after_enter e.enters p)
          → is_carried_out (Decided (Retype 0 0 frame_kind.User) r) ≡ true
          → Dated (e ∷ t)
      by_reply (reply.Ok x) decides may ok = ok_dated x decides may
      by_reply r decides may ok = absurd (false≢true ok)

      any_call : (call other : Call) (r : Reply) → is_carried_out (Decided call r) ≡ is_carried_out (Decided other r)
      any_call call other (reply.Ok x) = refl
      any_call call other r = refl

      by : (o : Option Reply) → e.decides ≡ o → MayDecide setup t e o (after_enter e.enters p) → Dated (e ∷ t)
      by None none may =
          let before_it : is_carried_out p ≡ true = sym (ap is_carried_out (now_is ∙ ap (λ o. after_decide o p) none)) ∙ carried in
          ap stamp_in (settled_own setup setting f k t e made v pinned is none before_it)
          ∙ rest (showed_own setup setting f k t e made v pinned is none before_it) before_it
          ∙ ap (max v.stamp) (sym (drawn_is ∙ ap (λ o. drawn o begins_now) none))
      by (Some r) decides may = by_reply r decides may (any_call (Retype 0 0 frame_kind.User) may.call r
          ∙ sym (ap is_carried_out (now_is ∙ ap (λ o. after_decide o p) decides
          ∙ ap (after_decide (Some r)) (sym entered ∙ may.is_open))) ∙ carried)

-- The count that a carried out call has acquired settles to the later stamp of what it shows and what was drawn.
dated_along : (setup : Setting) (setting : IsSetting setup) (f k d : ℕ) (v : CountWord) → v.hold ≡ Pinned d → (t : Trace)
    → IsMade setup t → shows setup setting f t k ≡ Some v → is_carried_out (phase t d) ≡ true
    → stamp_in (settled_shows setup setting f t k) ≡ max v.stamp (drawn_by setup t d f)
dated_along setup setting f k d v pinned [] made is carried = absurd (false≢true carried)
dated_along setup setting f k d v pinned (e ∷ t) made is carried = elim (cases_eq d e.core) [
  | inl own ↦ subst (λ (c : ℕ). stamp_in (settled_shows setup setting f (e ∷ t) k) ≡ max v.stamp (drawn_by setup (e ∷ t) c f)) (sym own)
      (dated_own setup setting f k t e made v (pinned ∙ ap Pinned own) is
      (λ before was. subst (λ (c : ℕ). stamp_in (settled_shows setup setting f t k) ≡ max v.stamp (drawn_by setup t c f)) own
      (dated_along setup setting f k d v pinned t made.0 before (ap (λ (c : ℕ). is_carried_out (phase t c)) own ∙ was)))
      (sym (ap (λ (c : ℕ). is_carried_out (phase (e ∷ t) c)) own) ∙ carried))
  | inr other ↦
      ap stamp_in (settled_other setup setting f k d v pinned t e made is other)
      ∙ dated_along setup setting f k d v pinned t made.0 (showed setup setting f k d v pinned t e made is other)
      (sym (ap is_carried_out (phase-other d e t other)) ∙ carried)
      ∙ ap (max v.stamp) (sym (ap (λ b. if b && is_some e.decides then (if begins_at setup t e (FrameOf f) then e.found else 0) else
      drawn_by setup t d f) (ne_eqb d e.core other)))
]

-- The stamp that a word will show is that of what it settles to.
module _ (setup : Setting) (setting : IsSetting setup) (t : Trace) (made : IsMade setup t) (f : ℕ) where
  abbrev Dates : ℕ → Option CountWord → Type 0
  Dates k o = will_date setup t f o ≡ stamp_in (settled_shows setup setting f t k)

  by_word : (k : ℕ) (o : Option CountWord) → shows setup setting f t k ≡ o → Dates k o
  by_word k None is = sym (ap stamp_in (free_shows setup setting f t k (ap count_mark is) ∙ is))
  by_word k (Some v) is = by v.hold refl
    where
      uncleared : (d : ℕ) → v.hold ≡ Pinned d → (b : Bool) → has_cleared f (phase t d) ≡ b → b ≡ false
      uncleared d hold false at = refl
      uncleared d hold true at =
          absurd ((pinned_say setup setting t made f k d v is hold).spares (untypes_cleared f (phase t d) at))

      carried_by : (d : ℕ) → v.hold ≡ Pinned d → (b : Bool) → is_carried_out (phase t d) ≡ b
          → (if b then max v.stamp (drawn_by setup t d f) else v.stamp) ≡ stamp_in (settled_shows setup setting f t k)
      carried_by d hold true carried = sym (dated_along setup setting f k d v hold t made is carried)
      carried_by d hold false carried = sym (ap stamp_in (pinned_shows setup setting f t made k d v is hold
          (holder_below setup setting t made (CountAt f k) d (ap count_mark is ∙ ap hold_mark hold)) carried))

      frozen_by : (d : ℕ) → v.hold ≡ Closed d → (b : Bool) → is_carried_out (phase t d) ≡ b
          → (if b then 0 else (if b then max v.stamp (drawn_by setup t d f) else v.stamp)) ≡ stamp_in (settled_shows setup setting f t k)
      frozen_by d hold b carried = cleared_by b ∙ sym (ap stamp_in (closed_shows setup setting f t made k d v is hold
          ∙ ap (λ c. Some (cleared_if c v)) carried))
        where
          cleared_by : (c : Bool)
              → (if c then 0 else (if c then max v.stamp (drawn_by setup t d f) else v.stamp)) ≡ stamp_in (Some (cleared_if c v))
          cleared_by true = refl
          cleared_by false = refl

      by : (h : Hold) → v.hold ≡ h → stamp_then setup t f h v.stamp ≡ stamp_in (settled_shows setup setting f t k)
      by Unheld hold = sym (ap stamp_in (free_shows setup setting f t k (ap count_mark is ∙ ap hold_mark hold) ∙ is))
      by (Pinned d) hold =
          ap (λ b. if b then 0 else (if is_carried_out (phase t d) then max v.stamp (drawn_by setup t d f) else v.stamp))
          (uncleared d hold (has_cleared f (phase t d)) refl)
          ∙ carried_by d hold (is_carried_out (phase t d)) refl
      by (Closed d) hold =
          ap (λ b. if b then 0 else (if is_carried_out (phase t d) then max v.stamp (drawn_by setup t d f) else v.stamp))
          (cleared_is f (phase t d) (frozen_say setup setting t made f k d v is hold))
          ∙ frozen_by d hold (is_carried_out (phase t d)) refl

  newest_tells : (ks : List ℕ) → newest_then setup t f ks ≡ newest_of (settled_shows setup setting f t) ks
  newest_tells [] = refl
  newest_tells (k ∷ ks) = ap (λ (n : ℕ). max n (newest_then setup t f ks)) (by_word k (shows setup setting f t k) refl)
      ∙ ap (max (stamp_in (settled_shows setup setting f t k))) (newest_tells ks)

pub stamps_tell : (setup : Setting) → IsSetting setup → (t : Trace) → IsMade setup t → StampsTell setup t
stamps_tell setup setting t made f = newest_tells setup setting t made f (counters setup.cores)
    ∙ ap (λ l. newest_of (settled_shows setup setting f t) (counters l.cores)) (sym (limits_of setup t))
    ∙ ((made_stands setup setting t made).sums f).newest
