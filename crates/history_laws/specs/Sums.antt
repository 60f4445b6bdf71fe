-- Time and references as sums over words: what words show at a moment, and what the calls in progress have still to store there.
use Rattle.std.specs.Prelude.{◌≡◌, ◌<◌}
use Rattle.kernel_history.specs.{ℕ, false, All, Option, Some, None, Setting, head_of_word, residue, CountWord, Closed, EntryAt}
use Rattle.kernel_history.specs.{CountAt, ticks, refs, Kernel, Tcap, TcapFields, State, counters, count_at, count_sum, marked_by, Phase}
use Rattle.kernel_history.specs.{Out, Decided, phase, state_after, last_left}
use Rattle.history_laws.specs.{Time.state_of_decision, Time.Owes, Counts.has_cleared}
use Rattle.{state_laws.specs.kernel_laws.specs.Laws.grants_sum, kernel_history.specs.Trace.Trace, kernel_history.specs.Trace.Open}

-- What a temporal capability in frame f holds whose head core d has marked, where the head shows this: what is shown, but for the ticks
-- that the core's call, decided in state s, has still to store there. A core between calls has marked none.
abbrev pub HoldsOf : State → ℕ → Phase → ℕ → ℕ → ℕ → Type 0
HoldsOf s d Out f shown held = ⊥
HoldsOf s d (Open call) f shown held = shown ≡ held
HoldsOf s d (Decided call r) f shown held = Owes s d r call f shown held

abbrev pub HoldsBy : Setting → Trace → Option ℕ → ℕ → ℕ → ℕ → Type 0
HoldsBy setup t None f shown held = shown ≡ held
HoldsBy setup t (Some d) f shown held = HoldsOf (state_of_decision setup t d) d (phase t d) f shown held

-- The head of the temporal capability in frame f shows a budget, and the mark of the core that has marked it, if one has. So much it
-- holds, with the ticks that are in transit between two heads.
pub record HeadHolds (setup : Setting) (t : Trace) (f held : ℕ) : Type 0 where
  pub shown : ℕ
  pub version : ℕ
  pub says : head_of_word (last_left setup t (EntryAt f 0))
      ≡ Some (record { budget = shown; mark = marked_by setup t (EntryAt f 0); version = version })
  pub transit : HoldsBy setup t (marked_by setup t (EntryAt f 0)) f shown held

-- At each moment what the heads of all temporal capabilities hold, with the ticks in transit, and what all cores have spent and have not
-- had back sums to what was granted: `ticks` is the sum of these budgets and of what is spent less what was given back.
pub record TimeSums (setup : Setting) (t : Trace) : Type 0 where
  pub heads : (f : ℕ) (q : TcapFields) → (state_after setup t).frame f ≡ Kernel (Tcap q) → HeadHolds setup t f q.budget
  pub sum : ticks (state_after setup t) ≡ grants_sum setup

-- A count word shows that core c has frozen it.
abbrev pub IsFrozenBy : ℕ → Option CountWord → Type 0
IsFrozenBy c None = ⊥
IsFrozenBy c (Some v) = v.hold ≡ Closed c

-- No call but core c's holds a count of the frame, and the counts sum to the references to it, modulo 2 ^ 16.
pub record IsSummed (setup : Setting) (t : Trace) (f c : ℕ) : Type 0 where
  pub alone : (k d : ℕ) → k < setup.cores → marked_by setup t (CountAt f k) ≡ Some d → d ≡ c
  pub sum : residue (count_sum (count_at (last_left setup t) f) (counters setup.cores)) ≡ refs (state_after setup t) f

-- From the step by which a core's sweep freezes the last count of a frame, as long as all are frozen and its call has not made the frame
-- untyped: no call has acquired a count of the frame, and the counts sum to the references to it, modulo 2 ^ 16.
abbrev pub FrozenSums : Setting → Trace → Type 0
FrozenSums setup t = (f c : ℕ) → All (λ k. IsFrozenBy c (count_at (last_left setup t) f k)) (counters setup.cores)
    → has_cleared f (phase t c) ≡ false → IsSummed setup t f c
