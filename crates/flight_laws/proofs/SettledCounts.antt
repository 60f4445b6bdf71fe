-- What count words settle to while calls hold them, by what they show; and how that of an acquired count changes where its call is
-- carried out.
use Rattle.time_laws.specs as low
use low.kept_facts.proofs.{◌≡◌, ◌≢◌, ℕ, pos, ◌+ℤ◌, ◌<◌, ◌==◌, ◌&&◌, ◌||◌, Bool, true, false, ◌∷◌, Option, Some, None, IsTrue, arith, refl}
use low.kept_facts.proofs.{sym, ◌∙◌, ap, subst, false≢true, true≢false, eq-eqb, ne_eqb, eqb-true, Setting, IsSetting, Call, Retype, Reply}
use low.kept_facts.proofs.{count_of_word, word_of_count, residue, CountWord, Hold, Pinned, Closed, Word, CountAt, AddOf, CompareOf, LoadOf}
use low.kept_facts.proofs.{Move, StoreOf, word_of, refs, put_other, counters, count_at, count_in, count_sum, counts_references, marked_by}
use low.kept_facts.proofs.{count_mark, hold_mark, Step, Trace, Phase, Out, phase, after_enter, after_decide, state_after, last_left}
use low.kept_facts.proofs.{last_left-there, unheld, Absorbed, Stage, decided_in, committed, settled_by, Invariant, count_shown, holds}
use low.kept_facts.proofs.{held_by, is_done, phase_at, limits_of, refs_residue, counter_once, FrameKind}
use low.kernel_history.specs.{◌-ℤ◌, Unheld, call_in, MayMove, may_count, Decided}
use low.flight.specs.{core_after, cores_after, stepping_core, IsMade}
use low.history_laws.specs.{is_carried_out, has_cleared, Untypes}
use Rattle.flight_laws.proofs.{CountHolds.SparesOwn, CountHolds.entered_is, CountHolds.frozen_say, CountHolds.phase_is}
use Rattle.flight_laws.proofs.{CountHolds.pinned_say, HeldCounts.NotOk, AcquiredCounts.HasCount, AcquiredCounts.has_count}
use Rattle.flight_laws.proofs.{AcquiredCounts.settles_to, FrozenCounts.cleared_if, FrozenCounts.frozen_settles}
use low.{frame_words.specs.Count.NumberFits, frame_words.specs.Residue.wrapped, frame_words.proofs.ResidueLemmas.count_wraps}
use low.{kernel_history.specs.Discipline.untypes_frame, stage_pins.specs.Counts.changed, stage_pins.proofs.PinLemmas.changed_none}
use low.{kept_facts.proofs.CountSums.sum_one, step_ways.proofs.Loads.call_is, flight.proofs.Made.made_stands}
use Rattle.time_laws.specs.frame_words.proofs.CountLemmas as counts

none_some : {A : Type 0} (x : A) → None ≡ Some x → ⊥
none_some x h = cc

same_some : {A : Type 0} (x y : A) → Some x ≡ Some y → x ≡ y
same_some x y h = cc

-- What a word shows that fits is found again in the word that no core holds.
unheld_shows : (n : ℕ) (v : CountWord) → count_of_word n ≡ Some v
    → count_of_word (word_of_count (unheld v.count v.stamp)) ≡ Some (unheld v.count v.stamp)
unheld_shows n v shows = let fits = (counts.spelling.spells n v shows).0 in
    counts.spelling.reads (unheld v.count v.stamp) (tt, fits.1, fits.2)

-- A call that is not carried out is not done.
pub undone : (call : Call) (stage : Stage) → is_carried_out (phase_at call stage) ≡ false → is_done stage ≡ None
undone call (Stage.Decided (Reply.Ok x) drawn tail) not = absurd (true≢false not)
undone call _ not = refl

-- A call that makes the frame untyped has cleared it where it is carried out.
pub cleared_is : (f : ℕ) (p : Phase) → Untypes f p → has_cleared f p ≡ is_carried_out p
cleared_is f (Decided call r) is =
    ap (λ c. has_cleared f (Decided c r)) (same_some call (Retype is.range f FrameKind.Untyped) is.is) ∙ by r
  where
    by : (q : Reply) → has_cleared f (Decided (Retype is.range f FrameKind.Untyped) q) ≡ is_carried_out (Decided call q)
    by (Reply.Ok v) = eq-eqb f f refl
    by q = refl
cleared_is f _ is = refl

-- A step at which nothing is decided does not decide `ok`.
pub not_ok : (told : Absorbed) → decided_in told ≡ None → NotOk told
not_ok (Absorbed.Decided r) none = absurd (none_some r (sym none))
not_ok _ none = tt

-- What a count word settles to.
module _ (setup : Setting) (setting : IsSetting setup) (f : ℕ) where
  abbrev pub settled_shows : Trace → ℕ → Option CountWord
  settled_shows t k = count_shown setup (held_by (cores_after setup t)) t f k

  abbrev pub shows : Trace → ℕ → Option CountWord
  shows t k = count_at (last_left setup t) f k

  -- one that no core holds, to what it shows
  pub free_shows : (t : Trace) (k : ℕ) → marked_by setup t (CountAt f k) ≡ None → settled_shows t k ≡ shows t k
  free_shows t k free =
      ap (λ o. count_of_word (settled_by o (held_by (cores_after setup t)) (CountAt f k) (last_left setup t (CountAt f k)))) free

  -- one that a core has frozen, to what it shows, or to none where the call is carried out
  pub closed_shows : (t : Trace) → IsMade setup t → (k d : ℕ) (v : CountWord) → shows t k ≡ Some v → v.hold ≡ Closed d
      → settled_shows t k ≡ Some (cleared_if (is_carried_out (phase t d)) v)
  closed_shows t made k d v is closed =
      ap count_of_word (frozen_settles setup setting t made f k d v is closed) ∙ by (is_carried_out (phase t d))
    where
      by : (b : Bool) → count_of_word (word_of_count (cleared_if b v)) ≡ Some (cleared_if b v)
      by true = counts.spelling.reads (unheld (pos 0) 0) (tt, omega arith, omega arith)
      by false = unheld_shows (last_left setup t (CountAt f k)) v is

  -- one that a core has acquired, to what it shows, while the call is not carried out
  pub pinned_shows : (t : Trace) → IsMade setup t → (k d : ℕ) (v : CountWord) → shows t k ≡ Some v → v.hold ≡ Pinned d
      → d < setup.cores → is_carried_out (phase t d) ≡ false → settled_shows t k ≡ Some (unheld v.count v.stamp)
  pinned_shows t made k d v is pinned here not =
      ap count_of_word (settles_to setup setting t made f k d v is pinned has.a has.active has.x has.among has.word
      ∙ ap (λ o. committed o has.x) (undone has.a.call has.a.stage (sym (ap is_carried_out the_phase) ∙ not))
      ∙ ap (λ w. word_of_count (unheld (changed w.count (pos 0)) w.stamp)) has.found
      ∙ ap (λ z. word_of_count (unheld z v.stamp)) (changed_none v.count
      (counts.spelling.spells (last_left setup t (CountAt f k)) v is).0.1))
      ∙ unheld_shows (last_left setup t (CountAt f k)) v is
    where
      has : HasCount (cores_after setup t d).active f k v
      has = has_count setup setting f k d v pinned t made is

      the_phase : phase t d ≡ phase_at has.a.call has.a.stage
      the_phase = (call_is setup setting (cores_after setup t) t (made_stands setup setting t made) d here has.a has.active).phase

-- A call that is carried out at this step, and has acquired a count of the frame.
module _ (setup : Setting) (setting : IsSetting setup) (f k : ℕ) (t : Trace) (e : Step) (made : IsMade setup (e ∷ t)) (v : CountWord)
    (is : count_at (last_left setup (e ∷ t)) f k ≡ Some v) (pinned : v.hold ≡ Pinned e.core) where
  stands : Invariant setup (cores_after setup t) t
  stands = made_stands setup setting t made.0

  later_stands : Invariant setup (cores_after setup (e ∷ t)) (e ∷ t)
  later_stands = made_stands setup setting (e ∷ t) made

  mark : marked_by setup (e ∷ t) (CountAt f k) ≡ Some e.core
  mark = ap count_mark is ∙ ap hold_mark pinned

  its_own : SparesOwn f k e.core (phase (e ∷ t) e.core)
  its_own = pinned_say setup setting (e ∷ t) made f k e.core v is pinned

  -- its call, by which the step is disciplined
  abbrev call_now : Option Call
  call_now = call_in (after_enter e.enters (phase t e.core))

  call_after : call_in (phase (e ∷ t) e.core) ≡ call_now
  call_after = ap call_in (phase_is setup setting f k t e made mark) ∙ stays e.decides (phase t e.core)
      ∙ sym (ap call_in (entered_is setup setting f k t e made mark))
    where
      stays : (o : Option Reply) (p : Phase) → call_in (after_decide o p) ≡ call_in p
      stays (Some r) Out = refl
      stays _ _ = refl

  not_untyped : (call : Call) → call_now ≡ Some call → untypes_frame call f ≡ true → ⊥
  not_untyped (Retype r g FrameKind.Untyped) at untypes = its_own.spares (record {
    range = r;
    is = call_after ∙ at ∙ ap (λ (n : ℕ). Some (Retype r n FrameKind.Untyped)) (sym (eqb-true f g untypes));
  })
  not_untyped call at untypes = false≢true untypes

  may_not : (call : Call) (j : ℕ) → call_now ≡ Some call → j ≢ k → IsTrue (may_count e.core call f j) → ⊥
  may_not call j at other may = not_untyped call at (right (j == e.core) (untypes_frame call f)
      (ne_eqb j e.core (λ same. other (same ∙ sym its_own.own))) (both (counts_references call) (j == e.core || untypes_frame call f) may))
    where
      both : (x y : Bool) → (x && y) ≡ true → y ≡ true
      both true y h = h
      both false y h = absurd (false≢true h)

      right : (x y : Bool) → x ≡ false → (x || y) ≡ true → y ≡ true
      right false y not h = h
      right true y not h = absurd (true≢false not)

  -- the step is on no other count word of the frame
  beside : (j : ℕ) → j ≢ k → CountAt f j ≢ word_of e.move
  beside j other on = by e.move (sym on) later_stands.discipline.1.moves
    where
      at : call_now ≡ Some later_stands.discipline.1.call
      at = later_stands.discipline.1.is_of

      same_count : (g i f j : ℕ) → CountAt g i ≡ CountAt f j → (g ≡ f) × (i ≡ j)
      same_count g i f j h = (cc, cc)

      moved : (w : Word) → w ≡ CountAt f j → IsTrue (Rattle.time_laws.specs.kernel_history.specs.Discipline.may_load e.core
          later_stands.discipline.1.call w) → ⊥
      moved w at_word may = may_not later_stands.discipline.1.call j at other
          (subst (λ (x : Word). IsTrue (Rattle.time_laws.specs.kernel_history.specs.Discipline.may_load e.core
          later_stands.discipline.1.call x)) at_word may)

      changed_it : (w : Word) → w ≡ CountAt f j → IsTrue (Rattle.time_laws.specs.kernel_history.specs.Discipline.may_change
          (state_after setup t) e.core later_stands.discipline.1.call w) → ⊥
      changed_it w at_word may = may_not later_stands.discipline.1.call j at other
          (subst (λ (x : Word). IsTrue (Rattle.time_laws.specs.kernel_history.specs.Discipline.may_change (state_after setup t) e.core
          later_stands.discipline.1.call x)) at_word may)

      raised : (w : Word) (n : ℕ) → w ≡ CountAt f j
          → Rattle.time_laws.specs.kernel_history.specs.Discipline.MayRaise later_stands.discipline.1.call w n → ⊥
      raised w n at_word may = subst (λ (x : Word). Rattle.time_laws.specs.kernel_history.specs.Discipline.MayRaise
          later_stands.discipline.1.call x n) at_word may

      by : (m : Move) → word_of m ≡ CountAt f j → MayMove (state_after setup t) e.core later_stands.discipline.1.call m → ⊥
      by (LoadOf w) at_word may = moved w at_word may
      by (CompareOf w expected new) at_word may = changed_it w at_word may
      by (StoreOf w new) at_word may = changed_it w at_word may
      by (AddOf w n) at_word may = raised w n at_word may

  -- and the core holds none
  other_holder : (j : ℕ) → j ≢ k → marked_by setup (e ∷ t) (CountAt f j) ≡ Some e.core → ⊥
  other_holder j other held = by (count_at (last_left setup (e ∷ t)) f j) refl
    where
      by_hold : (w : CountWord) → count_at (last_left setup (e ∷ t)) f j ≡ Some w → (h : Hold) → w.hold ≡ h → ⊥
      by_hold w at Unheld hold = none_some e.core (sym (ap count_mark at ∙ ap hold_mark hold) ∙ held)
      by_hold w at (Pinned d) hold =
          let same : d ≡ e.core = same_some d e.core (sym (ap count_mark at ∙ ap hold_mark hold) ∙ held) in
          other ((pinned_say setup setting (e ∷ t) made f j d w at hold).own ∙ same ∙ sym its_own.own)
      by_hold w at (Closed d) hold =
          let same : d ≡ e.core = same_some d e.core (sym (ap count_mark at ∙ ap hold_mark hold) ∙ held) in
          its_own.spares (subst (λ (c : ℕ). Untypes f (phase (e ∷ t) c)) same (frozen_say setup setting (e ∷ t) made f j d w at hold))

      by : (o : Option CountWord) → count_at (last_left setup (e ∷ t)) f j ≡ o → ⊥
      by None at = none_some e.core (sym (ap count_mark at) ∙ held)
      by (Some w) at = by_hold w at w.hold refl

  pub other_same : (j : ℕ) → j ≢ k → settled_shows setup setting f (e ∷ t) j ≡ settled_shows setup setting f t j
  other_same j other =
      let raw : last_left setup (e ∷ t) (CountAt f j) ≡ last_left setup t (CountAt f j) =
      last_left-there setup (CountAt f j) e t (beside j other) in
      by (marked_by setup (e ∷ t) (CountAt f j)) refl raw (ap (λ (n : ℕ). count_mark (count_of_word n)) raw)
    where
      by : (o : Option ℕ) → marked_by setup (e ∷ t) (CountAt f j) ≡ o
          → last_left setup (e ∷ t) (CountAt f j) ≡ last_left setup t (CountAt f j)
          → marked_by setup (e ∷ t) (CountAt f j) ≡ marked_by setup t (CountAt f j)
          → settled_shows setup setting f (e ∷ t) j ≡ settled_shows setup setting f t j
      by None free raw marks = free_shows setup setting f (e ∷ t) j free ∙ ap count_of_word raw
          ∙ sym (free_shows setup setting f t j (sym marks ∙ free))
      by (Some d) held raw marks =
          ap (λ o. count_of_word (settled_by o (held_by (cores_after setup (e ∷ t))) (CountAt f j)
          (last_left setup (e ∷ t) (CountAt f j)))) held
          ∙ ap (λ core. count_of_word ((holds core).stands (CountAt f j)))
          (put_other (cores_after setup t) e.core (core_after (stepping_core setup t e) e.found) d
          (λ same. other_holder j other (held ∙ ap (λ (n : ℕ). Some n) same)))
          ∙ sym (ap (λ o. count_of_word (settled_by o (held_by (cores_after setup t)) (CountAt f j) (last_left setup t (CountAt f j))))
          (sym marks ∙ held))

  abbrev refs_then : ℕ
  refs_then = refs (state_after setup t) f

  abbrev refs_now : ℕ
  refs_now = refs (state_after setup (e ∷ t)) f

  -- what a word shows is within the range of counts
  shown_fits : (n : ℕ) (o : Option CountWord) → count_of_word n ≡ o → NumberFits (count_in o)
  shown_fits n None shows = omega arith
  shown_fits n (Some w) shows = (counts.spelling.spells n w shows).0.1

  -- so its count changes as the references do, modulo 2 ^ 16
  pub count_changes : count_in (settled_shows setup setting f (e ∷ t) k)
      ≡ wrapped (count_in (settled_shows setup setting f t k) +ℤ (pos refs_now -ℤ pos refs_then))
  count_changes = count_wraps (count_sum (settled_shows setup setting f t) (counters setup.cores))
      (count_sum (settled_shows setup setting f (e ∷ t)) (counters setup.cores))
      (count_in (settled_shows setup setting f t k)) (count_in (settled_shows setup setting f (e ∷ t) k)) refs_then refs_now
      (sum_one (settled_shows setup setting f t) (settled_shows setup setting f (e ∷ t)) (counters setup.cores) k
      (counter_once setup.cores k (let own = its_own.own in let here = made.1.is_core in omega (arith, own, here))) other_same)
      (ap (λ l. residue (count_sum (settled_shows setup setting f t) (counters l.cores))) (sym (limits_of setup t)) ∙ (stands.sums f).sum
      ∙ refs_residue setup setting t stands.legal f)
      (ap (λ l. residue (count_sum (settled_shows setup setting f (e ∷ t)) (counters l.cores))) (sym (limits_of setup (e ∷ t)))
      ∙ (later_stands.sums f).sum ∙ refs_residue setup setting (e ∷ t) later_stands.legal f)
      (shown_fits _ (settled_shows setup setting f (e ∷ t) k) refl)
