-- The threads that cores run, and what the words of threads say of them.
use Rattle.std.specs.Prelude.{◌≡◌, ◌≢◌, ◌<◌}
use Rattle.kernel_history.specs.{ℕ, Some, IsTrue, Setting, thread_of_word, ThreadWord, Idle, Running, Claimed, EntryAt, fits}
use Rattle.kernel_history.specs.{State, state_after, last_left, Kind}
use Rattle.kernel_history.specs.Trace.{Trace}

-- No thread is the current one of two cores of these many.
abbrev pub RunApart : ℕ → State → Type 0
RunApart cores s = (c d : ℕ) → c < cores → d < cores → (s.core c).thread ≡ (s.core d).thread → c ≡ d

-- So it is at each moment.
abbrev pub ThreadsRunApart : Setting → Trace → Type 0
ThreadsRunApart setup t = RunApart setup.cores (state_after setup t)

-- What the first word of the thread in a frame shows is so: it is running on the core whose current thread it is; or it is idle, and no
-- core's; or a core inside a call has claimed it, which alone may run it.
abbrev pub IsShown : Setting → Trace → ℕ → ThreadWord → Type 0
IsShown setup t f (Idle depth) = (c : ℕ) → c < setup.cores → ((state_after setup t).core c).thread ≢ f
IsShown setup t f (Running d depth) = (d < setup.cores) × (((state_after setup t).core d).thread ≡ f)
IsShown setup t f (Claimed d depth) =
    IsTrue ((state_after setup t).core d).inside × ((c : ℕ) → c < setup.cores → ((state_after setup t).core c).thread ≡ f → c ≡ d)

abbrev pub ThreadWordsSay : Setting → Trace → Type 0
ThreadWordsSay setup t = (f : ℕ)
    → IsTrue (fits Kind.Thread ((state_after setup t).frame f)) → (v : ThreadWord)
    → thread_of_word (last_left setup t (EntryAt f 0)) ≡ Some v → IsShown setup t f v
