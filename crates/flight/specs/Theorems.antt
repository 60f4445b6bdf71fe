-- What is proved of the cores that stand for a trace.
use Rattle.std.specs.Prelude.{◌≡◌, ◌<◌, ◌∷◌}
use Rattle.work_invariant.specs.core_invariant.specs.{ℕ, [], Option, None, Setting, IsSetting, Call, word_of, put, Trace}
use Rattle.work_invariant.specs.core_invariant.specs.{state_after, last_left, RepresentCounts, Represent, Core, move_of, end_of}
use Rattle.work_invariant.specs.boot_words.specs.kernel_history.specs.Moments.{WordsSay}
use Rattle.work_invariant.specs.core_invariant.specs.Invariant.{Invariant}
use Rattle.flight.specs.Made.{boot_cores, turned, MayStep, step_of, core_after, cores_after, IsMade}

-- The start stands for no step.
abbrev pub Boots : Type 0
Boots = (setup : Setting) → IsSetting setup → Invariant setup (boot_cores setup) []

-- What a core finds in the word of its next step.
abbrev pub found_by : Setting → Trace → Core → ℕ
found_by setup t core = last_left setup t (word_of (move_of core))

-- A step of any core, at which a call may begin, leaves cores that stand for the trace with that step.
abbrev pub StepsOn : Type 0
StepsOn = (setup : Setting) → IsSetting setup → (cores : ℕ → Core) (t : Trace) → Invariant setup cores t
    → (c : ℕ) → c < setup.cores → (enters : Option Call) → MayStep enters (cores c)
    → Invariant setup (put cores c (core_after (turned enters (cores c)) (found_by setup t (turned enters (cores c)))))
    (step_of c enters (turned enters (cores c)) (found_by setup t (turned enters (cores c))) ∷ t)

-- Where the cores are after a trace that is the machine's, they stand for it.
abbrev pub MadeStands : Type 0
MadeStands = (setup : Setting) → IsSetting setup → (t : Trace) → IsMade setup t → Invariant setup (cores_after setup t) t

-- At each moment the words say what the state is.
abbrev pub SaysWords : Type 0
SaysWords = (setup : Setting) → IsSetting setup → (cores : ℕ → Core) (t : Trace) → Invariant setup cores t → WordsSay setup t

-- All cores of the machine are between calls.
abbrev pub AreBetween : Setting → (ℕ → Core) → Type 0
AreBetween setup cores = (c : ℕ) → c < setup.cores → (cores c).active ≡ None

-- Where all cores are between calls, the words and the cores' ends represent the state.
abbrev pub Represents : Type 0
Represents = (setup : Setting) → IsSetting setup → (cores : ℕ → Core) (t : Trace) → Invariant setup cores t → AreBetween setup cores
    → Represent (last_left setup t) (λ c. end_of (cores c)) (state_after setup t)

-- And then no count is held, and those of each frame sum to the references to it.
abbrev pub RepresentsCounts : Type 0
RepresentsCounts = (setup : Setting) → IsSetting setup → (cores : ℕ → Core) (t : Trace) → Invariant setup cores t → AreBetween setup cores
    → RepresentCounts (last_left setup t) (state_after setup t)
