-- Steps that keep time: those apart from the clock, loads of the clock, and draws from it.
use Rattle.boot_words.specs.kernel_history.proofs.{◌≡◌, ◌≢◌, ◌+◌, arith, false, sym, ◌∙◌, false≢true, Setting, ClockAt, word_of, left_of}
use Rattle.boot_words.specs.kernel_history.proofs.{Thing, Step, begins_at, flushes_at, clock, last_left-here, last_left-there, KeepsTime}
use Rattle.boot_words.specs.kernel_history.specs.Trace.{Trace}

module _ (setup : Setting) (t : Trace) (e : Step) where
  -- a step on another word, at which no grace period begins and no flush is decided
  pub time_apart : ClockAt ≢ word_of e.move → ((x : Thing) → begins_at setup t e x ≡ false) → flushes_at t e ≡ false → KeepsTime setup t e
  time_apart apart none calm = record {
    rises = (let k = last_left-there setup ClockAt e t apart in omega (arith, k));
    draws = λ x is. absurd (false≢true (sym (none x) ∙ is));
    flushes = λ is. absurd (false≢true (sym calm ∙ is));
  }

  -- a load of the clock, at which no grace period begins
  pub time_load : ClockAt ≡ word_of e.move → e.found ≡ clock setup t → left_of e.move e.found ≡ e.found
      → ((x : Thing) → begins_at setup t e x ≡ false) → KeepsTime setup t e
  time_load at found left none = record {
    rises = (let k = last_left-here setup ClockAt e t at in omega (arith, k, found, left));
    draws = λ x is. absurd (false≢true (sym (none x) ∙ is));
    flushes = λ is. found;
  }

  -- a draw of a stamp: the clock is raised
  pub time_draw : ClockAt ≡ word_of e.move → e.found ≡ clock setup t → left_of e.move e.found ≡ e.found + 1 → KeepsTime setup t e
  time_draw at found left = record {
    rises = (let k = last_left-here setup ClockAt e t at in omega (arith, k, found, left));
    draws = λ x is. (found, (let k = last_left-here setup ClockAt e t at in omega (arith, k, found, left)));
    flushes = λ is. found;
  }
