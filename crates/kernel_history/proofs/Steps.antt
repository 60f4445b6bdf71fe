-- What one more step changes: at its own core and word, and elsewhere.
use Rattle.kernel_history.specs.{◌≡◌, ◌≢◌, ℕ, ◌+◌, ◌++◌, true, false, ◌∷◌, Some, None, cond, option_to_list, is_some, Setting, Word}
use Rattle.kernel_history.specs.{FlushAt, ClockAt, same_word, word_of, left_of, Thing, Step, phase, after_enter, after_decide, after_return}
use Rattle.kernel_history.specs.{last_left, calls_of, steps_in_call, own_left, only_reads, own_read, state_before, begins_at, ends_at}
use Rattle.kernel_history.specs.{flushes_at, stamp, awaits_flushes, clock_seen, exit_after, exit_of, flush_of, flush_stored}
use Rattle.kernel_rules.proofs.{ap, ◌∙◌, eq-eqb, ne_eqb, needs_flush}
use Rattle.{kernel_history.specs.Trace.Trace, kernel_history.proofs.Names.same_word-same, kernel_history.proofs.Names.same_word-other}

module _ (c : ℕ) (e : Step) (t : Trace) (own : c ≡ e.core) where
  pub phase-own : phase (e ∷ t) c ≡ after_return e.returns (after_decide e.decides (after_enter e.enters (phase t c)))
  phase-own = rw (eq-eqb c e.core own)

  pub calls_of-own : calls_of (e ∷ t) c ≡ calls_of t c ++ option_to_list e.enters
  calls_of-own = rw (eq-eqb c e.core own)

  pub steps_in_call-own : steps_in_call (e ∷ t) c ≡ cond (is_some e.enters) 1 (steps_in_call t c + 1)
  steps_in_call-own = rw (eq-eqb c e.core own)

  pub own_left-here : (w : Word) → w ≡ word_of e.move → own_left (e ∷ t) c w ≡ Some (left_of e.move e.found)
  own_left-here w here = rw (eq-eqb c e.core own, same_word-same w (word_of e.move) here)

  pub own_left-there : (w : Word) → w ≢ word_of e.move → own_left (e ∷ t) c w ≡ cond (is_some e.enters) None (own_left t c w)
  own_left-there w there = rw (eq-eqb c e.core own, same_word-other w (word_of e.move) there)

  pub own_read-here : (w : Word) → w ≡ word_of e.move → own_read (e ∷ t) c w ≡ (cond (only_reads e) (Some e.found) None)
  own_read-here w here = rw (eq-eqb c e.core own, same_word-same w (word_of e.move) here)

  pub own_read-there : (w : Word) → w ≢ word_of e.move → own_read (e ∷ t) c w ≡ cond (is_some e.enters) None (own_read t c w)
  own_read-there w there = rw (eq-eqb c e.core own, same_word-other w (word_of e.move) there)

module _ (c : ℕ) (e : Step) (t : Trace) (other : c ≢ e.core) where
  pub phase-other : phase (e ∷ t) c ≡ phase t c
  phase-other = rw (ne_eqb c e.core other)

  pub calls_of-other : calls_of (e ∷ t) c ≡ calls_of t c
  calls_of-other = rw (ne_eqb c e.core other)

  pub steps_in_call-other : steps_in_call (e ∷ t) c ≡ steps_in_call t c
  steps_in_call-other = rw (ne_eqb c e.core other)

  pub own_left-other : (w : Word) → own_left (e ∷ t) c w ≡ own_left t c w
  own_left-other w = rw (ne_eqb c e.core other)

  pub own_read-other : (w : Word) → own_read (e ∷ t) c w ≡ own_read t c w
  own_read-other w = rw (ne_eqb c e.core other)

module _ (setup : Setting) (w : Word) (e : Step) (t : Trace) where
  pub last_left-here : w ≡ word_of e.move → last_left setup (e ∷ t) w ≡ (left_of e.move e.found)
  last_left-here here = rw (same_word-same w (word_of e.move) here)

  pub last_left-there : w ≢ word_of e.move → last_left setup (e ∷ t) w ≡ last_left setup t w
  last_left-there there = rw (same_word-other w (word_of e.move) there)

-- Stamps: of a thing whose grace period begins, of one whose grace period ends, and of the others.
module _ (setup : Setting) (e : Step) (t : Trace) (x : Thing) where
  pub stamp-begins : begins_at setup t e x ≡ true → stamp setup (e ∷ t) x ≡ e.found
  stamp-begins is = ap (λ b. cond b e.found (cond (ends_at t e x) 0 (stamp setup t x))) is

  pub stamp-ends : begins_at setup t e x ≡ false → ends_at t e x ≡ true → stamp setup (e ∷ t) x ≡ 0
  stamp-ends not ends = ap (λ b. cond b e.found (cond (ends_at t e x) 0 (stamp setup t x))) not ∙ ap (λ b. cond b 0 (stamp setup t x)) ends

  pub stamp-kept : begins_at setup t e x ≡ false → ends_at t e x ≡ false → stamp setup (e ∷ t) x ≡ stamp setup t x
  stamp-kept not kept = ap (λ b. cond b e.found (cond (ends_at t e x) 0 (stamp setup t x))) not ∙ ap (λ b. cond b 0 (stamp setup t x)) kept

  pub awaits-begins : begins_at setup t e x ≡ true → awaits_flushes setup (e ∷ t) x ≡ needs_flush (state_before setup t e) x
  awaits-begins is = ap (λ b. cond b (needs_flush (state_before setup t e) x) (cond (ends_at t e x) false (awaits_flushes setup t x))) is

  pub awaits-ends : begins_at setup t e x ≡ false → ends_at t e x ≡ true → awaits_flushes setup (e ∷ t) x ≡ false
  awaits-ends not ends =
      ap (λ b. cond b (needs_flush (state_before setup t e) x) (cond (ends_at t e x) false (awaits_flushes setup t x))) not
      ∙ ap (λ b. cond b false (awaits_flushes setup t x)) ends

  pub awaits-kept : begins_at setup t e x ≡ false → ends_at t e x ≡ false → awaits_flushes setup (e ∷ t) x ≡ awaits_flushes setup t x
  awaits-kept not kept =
      ap (λ b. cond b (needs_flush (state_before setup t e) x) (cond (ends_at t e x) false (awaits_flushes setup t x))) not
      ∙ ap (λ b. cond b false (awaits_flushes setup t x)) kept

-- What a core has seen of the clock, left with, flushed with and stored.
module _ (c : ℕ) (e : Step) (t : Trace) (own : c ≡ e.core) where
  pub clock_seen-own : clock_seen (e ∷ t) c ≡ cond (same_word ClockAt (word_of e.move)) e.found (clock_seen t c)
  clock_seen-own = rw (eq-eqb c e.core own)

  pub exit_of-own : exit_of (e ∷ t) c ≡ exit_after e.returns (clock_seen t c) (exit_of t c)
  exit_of-own = rw (eq-eqb c e.core own)

  pub flush_of-own : flush_of (e ∷ t) c ≡ cond (flushes_at t e) e.found (flush_of t c)
  flush_of-own = rw (eq-eqb c e.core own)

  pub flush_stored-own : flush_stored (e ∷ t) c ≡ cond (same_word (FlushAt c) (word_of e.move)) (flush_of t c) (flush_stored t c)
  flush_stored-own = rw (eq-eqb c e.core own)

module _ (c : ℕ) (e : Step) (t : Trace) (other : c ≢ e.core) where
  pub clock_seen-other : clock_seen (e ∷ t) c ≡ clock_seen t c
  clock_seen-other = rw (ne_eqb c e.core other)

  pub exit_of-other : exit_of (e ∷ t) c ≡ exit_of t c
  exit_of-other = rw (ne_eqb c e.core other)

  pub flush_of-other : flush_of (e ∷ t) c ≡ flush_of t c
  flush_of-other = rw (ne_eqb c e.core other)

  pub flush_stored-other : flush_stored (e ∷ t) c ≡ flush_stored t c
  flush_stored-other = rw (ne_eqb c e.core other)
