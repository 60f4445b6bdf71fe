-- The way in which a call is refused at a step by which its core marks a word: it leaves all as it was but counts the call, and has what it
-- holds still to store.
use Rattle.scan_invariant.specs.step_ways.proofs as low
use low.{◌≡◌, ◌≢◌, inr, ℕ, ◌+◌, ◌^◌, ◌<◌, false, if◌then◌else◌, ◌∷◌, Some, None, arith, refl, sym, ◌∙◌, ap, subst, Setting, IsSetting}
use low.{Reply, Word, CountAt, EntryAt, FlushAt, ClockAt, same_word, Move, word_of, left_of, Thing, FrameOf, put, alone, MayReply, begins}
use low.{ends, flushes, counted, state_by, calls_counted, put_same, IsAlone, IsJustified, mark_of, marked_by, ends_in, flushes_in, Step}
use low.{Trace, Open, phase, state_after, state_decided_in, last_left, decided-inside, last_left-there, Tail, Stage, Decided, ActiveCall}
use low.{Core, settled_by, settled, phase_at, KnowsTail, holds, held_by, Invariant, AsBefore, calm_counted, counted_rises, IsUntimed}
use low.{plain_begins, plain_exit, exclusive_elsewhere, marks_own, begins_in, open_flushed, IsGood, spares_other, IsOfCall, Lands, next_at}
use low.{core_in_call, core_is, call_is, inner, inner_works, spares_none}
use Rattle.scan_invariant.specs.kept_facts.proofs.{flushing_in, IsCalm, calm_words, none_stored, exclusive_open, sums_stay, none_time}
use Rattle.scan_invariant.specs.kept_facts.proofs.{none_flushed, hold_marks, hold_words, settled_stays}
use Rattle.scan_invariant.specs.kept_facts.proofs.Exclusive.{given_kept}
use Rattle.scan_invariant.specs.step_ways.proofs.OwnChanges as owning

module _ (setup : Setting) (setting : IsSetting setup) (cores : ℕ → Core) (t : Trace) (stands : Invariant setup cores t) (c : ℕ)
    (here : c < setup.cores)
    (a : ActiveCall) (active : (cores c).active ≡ Some a) (move : Move) (r : Reply) (tail : Tail) where
  abbrev pub made : ℕ
  made = (cores c).own.made + calls_counted r

  abbrev pub stage : Stage
  stage = Decided r None tail

  abbrev pub after : Core
  after = core_in_call (cores c) made (next_at a a.found stage)

  abbrev pub e : Step
  e = inner setup setting cores t stands c here a active move (Some r) None

  abbrev pub was : ℕ
  was = last_left setup t (word_of move)

  pub refuses_holding : ((b : ℕ) → same_word (FlushAt b) (word_of move) ≡ false) → ClockAt ≢ word_of move
      → ((f i : ℕ) → word_of move ≢ EntryAt f i) → IsOfCall setup t c a.call move → Lands setup after (word_of move)
      → left_of move was < 2 ^ 64
      → ((w : Word) → w ≢ word_of move
      → ((holds after).marks w ≡ (holds (cores c)).marks w) × ((holds after).stands w ≡ (holds (cores c)).stands w))
      → AsBefore (holds (cores c)) (holds after) (word_of move)
      → mark_of (state_after setup t) (word_of move) (left_of move was) ≡ (if (holds after).marks (word_of move) then Some c else None)
      → ((b : ℕ) → b ≢ c → marked_by setup t (word_of move) ≡ Some b → ⊥)
      → settled_by (if (holds after).marks (word_of move) then Some c else None) (held_by (put cores c after)) (word_of move)
      (left_of move was) ≡ settled setup (held_by cores) t (word_of move)
      → phase_at a.call a.stage ≡ Open a.call
      → state_by (state_after setup t) c a.call r ≡ counted (state_after setup t) c → calls_counted r ≡ 1
      → ((x : Thing) → begins (state_after setup t) c a.call r x ≡ false) → ((x : Thing) → ends a.call r x ≡ false)
      → flushes a.call r ≡ false
      → MayReply (state_after setup t) c a.call r → IsJustified setup t e a.call r
      → (IsAlone t e → r ≡ alone (state_after setup t) c a.call)
      → KnowsTail setup (e ∷ t) c a.call a.counts tail
      → IsGood setup cores t e after
  refuses_holding no_flush no_clock no_entry of_call lands small elsewhere bares now unowned settles opens state one none_begins none_ends
      flushes_not permitted justified first knows =
      let is_open : phase t c ≡ Open a.call = (call_is setup setting cores t stands c here a active).phase ∙ opens in
      let after_is : state_after setup (e ∷ t) ≡ counted (state_after setup t) c =
      ap (λ p. state_decided_in p r (state_after setup t) c) is_open ∙ state in
      let calm : IsCalm (state_after setup t) (state_after setup (e ∷ t)) c =
      subst (λ s. IsCalm (state_after setup t) s c) (sym after_is) (calm_counted (state_after setup t) c) in
      let plain : IsUntimed setup t e = record {
        begins = λ x. ap (λ p. begins_in (Some r) p (state_after setup t) c x) is_open ∙ none_begins x;
        ends = λ x. ap (λ p. ends_in (Some r) p x) is_open ∙ none_ends x;
        flushes = ap (flushes_in (Some r)) is_open ∙ flushes_not;
        apart = λ b. none_stored t c b _ (no_flush b);
        same = last_left-there setup ClockAt e t no_clock;
      } in
      let marks = hold_marks setup cores t e after calm.frame elsewhere bares now unowned settles stands.marks in
      owning.decides_owning setup setting cores t stands c here a active move r (record (cores c).own { made = made }) stage
      (record { core = refl; layout = refl; limit = refl; epochs = refl; exit = refl })
      small of_call lands opens refl
      (marks_own setup cores t e after (λ w there. (elsewhere w there).0) stands.marks marks)
      (λ d m other. absurd (unowned d other m))
      (none_time setup t e (plain_begins setup t e plain)) (let b = plain.same in omega arith)
      (λ done. none_flushed setup t e (plain_begins setup t e plain) c
      ((core_is setup setting cores t stands c here a active).flushed (ap flushing_in active ∙ open_flushed a.call a.stage opens)))
      (spares_other setup t e no_entry) (inr (spares_none setup t e (λ f. plain.ends (FrameOf f))))
      (counted_rises setup (state_after setup t) (state_after setup (e ∷ t)) c calm)
      (inner_works setup setting cores t stands c here a active move (Some r) None made calm (counts after_is))
      marks
      (hold_words setup cores t e after calm.frame elsewhere bares now unowned settles
      (λ v. calm_words setup t e calm plain v (λ g i h. ap (λ s. s.place g i) after_is)
      (λ d h. (decided-inside (Some r) (phase t c) (state_after setup t) c d, plain_exit t e refl d))) stands.words)
      (exclusive_open setup cores t e after a a.call active opens (given_kept (holds (cores c)) (holds after) (word_of move) bares))
      (exclusive_elsewhere cores e no_entry)
      (sums_stay setup t e (held_by cores) (held_by (put cores c after))
      (λ f d. settled_stays setup cores t e after calm.frame elsewhere bares now unowned settles (CountAt f d))
      calm plain (λ g i. ap (λ s. s.place g i) after_is) stands.sums)
      (record { call = a.call; is_open = is_open; permitted = permitted; justified = justified })
      first knows
    where
      counts : state_after setup (e ∷ t) ≡ counted (state_after setup t) c → made ≡ ((state_after setup (e ∷ t)).core c).counted
      counts now =
          let own = (core_is setup setting cores t stands c here a active).works.made in
          let g : ((state_after setup (e ∷ t)).core c).counted ≡ ((counted (state_after setup t) c).core c).counted =
          ap (λ s. (s.core c).counted) now in
          let k : ((counted (state_after setup t) c).core c).counted ≡ ((state_after setup t).core c).counted + 1 =
          ap (λ j. j.counted) (put_same (state_after setup t).core c
          (record ((state_after setup t).core c) { counted = ((state_after setup t).core c).counted + 1 }) c refl) in
          omega arith
