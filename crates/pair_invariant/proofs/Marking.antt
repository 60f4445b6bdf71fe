-- The way in which a call is decided with a refusal by a step that marks its word, or gives it back.
use Rattle.count_invariant.specs.step_ways.proofs as low
use low.{◌≡◌, ◌≢◌, ◌∷◌, ℕ, ◌+◌, ◌^◌, ◌<◌, false, if◌then◌else◌, Some, None, arith, refl, sym, ◌∙◌, ap, subst, Setting, IsSetting, Reply}
use low.{Word, CountAt, FlushAt, ClockAt, same_word, Move, word_of, left_of, Thing, FrameOf, put, MayReply, state_by, counted, begins, ends}
use low.{flushes, alone, calls_counted, put_same, IsAlone, IsJustified, mark_of, marked_by, ends_in, flushes_in, Step, Trace, Open, phase}
use low.{after_decide, state_after, last_left, state_decided_in, decided-inside, last_left-there, Tail, Decided, ActiveCall, Core}
use low.{settled_by, settled, phase_at, KnowsTail, holds, held_by, Invariant, AsBefore, calm_counted, counted_rises, IsUntimed, plain_exit}
use low.{plain_begins, marks_own, begins_in, open_flushed, IsGood, SparesBlanks, Lands, IsOfCall, next_at, core_in_call, core_is, call_is}
use low.{inner, inner_works, spares_none}
use Rattle.count_invariant.specs.kept_facts.proofs.{IsFirst, IsCalm, calm_words, none_stored, plain_time, SparesExclusive, exclusive_open}
use Rattle.count_invariant.specs.kept_facts.proofs.{sums_stay, hold_marks, hold_words, settled_stays}
use Rattle.count_invariant.specs.kept_facts.proofs.Exclusive.{given_kept}
use low.Loads.{in_call, inner_within, inner_disciplined, inner_footprint, inner_own}

module _ (setup : Setting) (setting : IsSetting setup) (cores : ℕ → Core) (t : Trace) (stands : Invariant setup cores t) (c : ℕ)
    (here : c < setup.cores)
    (a : ActiveCall) (active : (cores c).active ≡ Some a) (move : Move) (r : Reply) (tail : Tail) where
  abbrev pub e : Step
  e = inner setup setting cores t stands c here a active move (Some r) None

  abbrev pub after : Core
  after = core_in_call (cores c) ((cores c).own.made + calls_counted r) (next_at a a.found (Decided r None tail))

  abbrev pub was : ℕ
  was = last_left setup t (word_of move)

  -- the step leaves what the core holds of other words, no other core has marked its word, and what this stands for stays; the reply leaves
  -- all but the count of calls
  pub decides_marking : ((b : ℕ) → same_word (FlushAt b) (word_of move) ≡ false) → ClockAt ≢ word_of move
      → IsOfCall setup t c a.call move → Lands setup after (word_of move) → left_of move was < 2 ^ 64
      → ((w : Word) → w ≢ word_of move
      → ((holds after).marks w ≡ (holds (cores c)).marks w) × ((holds after).stands w ≡ (holds (cores c)).stands w))
      → AsBefore (holds (cores c)) (holds after) (word_of move)
      → mark_of (state_after setup t) (word_of move) (left_of move was) ≡ (if (holds after).marks (word_of move) then Some c else None)
      → ((b : ℕ) → b ≢ c → marked_by setup t (word_of move) ≡ Some b → ⊥)
      → settled_by (if (holds after).marks (word_of move) then Some c else None) (held_by (put cores c after)) (word_of move)
      (left_of move was) ≡ settled setup (held_by cores) t (word_of move)
      → phase_at a.call a.stage ≡ Open a.call → state_by (state_after setup t) c a.call r ≡ counted (state_after setup t) c
      → calls_counted r ≡ 1
      → ((x : Thing) → begins (state_after setup t) c a.call r x ≡ false) → ((x : Thing) → ends a.call r x ≡ false)
      → flushes a.call r ≡ false
      → MayReply (state_after setup t) c a.call r → IsJustified setup t e a.call r
      → (IsAlone t e → r ≡ alone (state_after setup t) c a.call)
      → KnowsTail setup (e ∷ t) c a.call a.counts tail
      → SparesBlanks setup t e → SparesExclusive cores e
      → IsGood setup cores t e after
  decides_marking no_flush_word not_clock of_call lands small elsewhere bares now unowned settles opens state one none_begins none_ends
      no_flush permitted justified first knows blanks spares =
      let is_open : phase t c ≡ Open a.call = (call_is setup setting cores t stands c here a active).phase ∙ opens in
      let after_it : state_after setup (e ∷ t) ≡ counted (state_after setup t) c =
      ap (λ p. state_decided_in p r (state_after setup t) c) is_open ∙ state in
      let calm : IsCalm (state_after setup t) (state_after setup (e ∷ t)) c = subst (λ s. IsCalm (state_after setup t) s c) (sym after_it)
      (calm_counted (state_after setup t) c) in
      let plain : IsUntimed setup t e = record {
        begins = λ x. ap (λ p. begins_in (Some r) p (state_after setup t) c x) is_open ∙ none_begins x;
        ends = λ x. ap (λ p. ends_in (Some r) p x) is_open ∙ none_ends x;
        flushes = ap (flushes_in (Some r)) is_open ∙ no_flush;
        apart = λ b. none_stored t c b _ (no_flush_word b);
        same = last_left-there setup ClockAt e t not_clock;
      } in
      let marks = hold_marks setup cores t e after calm.frame elsewhere bares now unowned settles stands.marks in record {
        follows = record {
          is_core = here;
          is_in = lands.is_in;
          found = refl;
          small = small;
          enters = tt;
          in_call = in_call setup setting cores t stands c here a active;
          decides = record { call = a.call; is_open = is_open; permitted = permitted; justified = justified };
          returns = tt;
        };
        within = inner_within setup setting cores t stands c here a active move (Some r) None;
        alone = λ is_alone. subst (IsFirst setup t e (Some r)) (sym is_open) (first is_alone);
        disciplined = inner_disciplined setup setting cores t stands c here a active move (Some r) None of_call
            (marks_own setup cores t e after (λ w there. (elsewhere w there).0) stands.marks marks)
            (λ b m other. absurd (unowned b other m));
        footprint = inner_footprint setup setting cores t stands c here a active move (Some r) None of_call;
        blanks = blanks;
        counted = spares_none setup t e (λ f. plain.ends (FrameOf f));
        marks = marks;
        words = hold_words setup cores t e after calm.frame elsewhere bares now unowned settles
            (λ v. calm_words setup t e calm plain v (λ g i h. ap (λ s. s.place g i) after_it)
            (λ d h. (decided-inside (Some r) (phase t c) (state_after setup t) c d, plain_exit t e refl d))) stands.words;
        exclusive = exclusive_open setup cores t e after a a.call active opens
            (given_kept (holds (cores c)) (holds after) (word_of move) bares);
        spares = spares;
        sums = sums_stay setup t e (held_by cores) (held_by (put cores c after))
            (λ g b. settled_stays setup cores t e after calm.frame elsewhere bares now unowned settles (CountAt g b))
            calm plain (λ g i. ap (λ s. s.place g i) after_it) stands.sums;
        draws = (let d = stands.draws in let b = plain.same in let g = counted_rises setup (state_after setup t)
            (state_after setup (e ∷ t)) c calm in omega (arith, d, b, g));
        time = plain_time setup t e plain;
        leaves = tt;
        own = inner_own setup setting cores t stands c here a active move (Some r) None refl (plain_begins setup t e plain)
            ((cores c).own.made + calls_counted r) a.found (Decided r None tail) (λ done. open_flushed a.call a.stage opens) lands.fits
            (inner_works setup setting cores t stands c here a active move (Some r) None ((cores c).own.made + calls_counted r) calm
            (counts after_it)) (ap (after_decide (Some r)) opens) knows;
      }
    where
      counts : state_after setup (e ∷ t) ≡ counted (state_after setup t) c
          → (cores c).own.made + calls_counted r ≡ ((state_after setup (e ∷ t)).core c).counted
      counts after_it =
          let made = (core_is setup setting cores t stands c here a active).works.made in
          let g : ((state_after setup (e ∷ t)).core c).counted ≡ ((counted (state_after setup t) c).core c).counted =
          ap (λ s. (s.core c).counted) after_it in
          let k : ((counted (state_after setup t) c).core c).counted ≡ ((state_after setup t).core c).counted + 1 =
          ap (λ j. j.counted) (put_same (state_after setup t).core c
          (record ((state_after setup t).core c) { counted = ((state_after setup t).core c).counted + 1 }) c refl) in
          omega (arith, one, made, g, k)
