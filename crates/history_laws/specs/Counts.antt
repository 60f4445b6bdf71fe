-- What the count words of a frame show at each moment, also while calls hold them: with what these calls have still to store, the
-- references to the frame, modulo 2 ^ 16.
use Rattle.std.specs.Prelude.{◌≡◌, ◌+ℤ◌, ◌-ℤ◌, ◌==◌, ◌&&◌, ◌∷◌, if◌then◌else◌}
use Rattle.kernel_history.specs.{ℕ, ℤ, pos, Bool, false, true, List, [], Option, Some, None, is_some}
use Rattle.kernel_history.specs.{Setting, Retype, residue, CountWord, Hold, Unheld, Pinned, Closed, refs, call_in, counters}
use Rattle.kernel_history.specs.{count_at, Phase, Decided, phase, state_after, state_before, last_left}
use Rattle.state_laws.specs.spk_nums.specs.{declared.kinds.FrameKind.TheVariants.Untyped, declared.replies.Reply.TheVariants.Ok}
use Rattle.{kernel_history.specs.frame_words.specs.Residue.wrapped, kernel_history.specs.Trace.Trace}

-- What the last decision of core c has changed of the references to frame f: those in the state after it, less those in the state in
-- which it was made.
abbrev pub changed_by : Setting → Trace → ℕ → ℕ → ℤ
changed_by setup [] c f = pos 0
changed_by setup (e ∷ t) c f =
    if c == e.core && is_some e.decides
    then pos (refs (state_after setup (e ∷ t)) f) -ℤ pos (refs (state_before setup t e) f)
    else changed_by setup t c f

-- Whether a call in this phase is carried out: it is decided `ok`.
abbrev pub is_carried_out : Phase → Bool
is_carried_out (Decided call (Ok v)) = true
is_carried_out _ = false

-- Whether it has made frame f untyped.
abbrev pub has_cleared : ℕ → Phase → Bool
has_cleared f (Decided (Retype r g Untyped) (Ok v)) = f == g
has_cleared f _ = false

-- The count that a word of frame f will show, which shows this hold and this count, once the call that holds it has stored there. A call
-- that has acquired it has still to add what its decision has changed of the references to f, modulo 2 ^ 16, if it is carried out; one
-- that has frozen it has still to clear it, if it has made f untyped.
abbrev pub count_then : Setting → Trace → ℕ → Hold → ℤ → ℤ
count_then setup t f Unheld count = count
count_then setup t f (Pinned d) count = if is_carried_out (phase t d) then wrapped (count +ℤ changed_by setup t d f) else count
count_then setup t f (Closed d) count = if has_cleared f (phase t d) then pos 0 else count

abbrev pub will_show : Setting → Trace → ℕ → Option CountWord → ℤ
will_show setup t f None = pos 0
will_show setup t f (Some v) = count_then setup t f v.hold v.count

-- The sum of what the words of these numbers will show.
abbrev pub sum_then : Setting → Trace → ℕ → List ℕ → ℤ
sum_then setup t f [] = pos 0
sum_then setup t f (k ∷ ks) = will_show setup t f (count_at (last_left setup t) f k) +ℤ sum_then setup t f ks

-- At each moment what the count words of a frame will show sums to the references to it, modulo 2 ^ 16.
abbrev pub CountsTell : Setting → Trace → Type 0
CountsTell setup t = (f : ℕ) → residue (sum_then setup t f (counters setup.cores)) ≡ refs (state_after setup t) f

-- A call of this phase is one that makes frame f untyped.
pub record Untypes (f : ℕ) (p : Phase) : Type 0 where
  pub range : ℕ
  pub is : call_in p ≡ Some (Retype range f Untyped)

-- At each moment a count word that a core has frozen is one of a frame that its call makes untyped.
abbrev pub FrozenSay : Setting → Trace → Type 0
FrozenSay setup t = (f k d : ℕ) (v : CountWord) → count_at (last_left setup t) f k ≡ Some v → v.hold ≡ Closed d → Untypes f (phase t d)
