-- The translations that cores have cached.
use Rattle.std.specs.Prelude.{◌≡◌, ◌<◌, ◌++◌, ◌∷◌}
use Rattle.kernel_history.specs.{ℕ, false, [], Some, Setting, Touch, PageFlags, User, State, comp_of, flushes_at}
use Rattle.kernel_history.specs.{state_after, state_before, phase, after_enter, Step}
use Rattle.state_laws.specs.{Stands, Begins, Answers}
use Rattle.std.specs.List.{AllByRecursion}
use Rattle.state_laws.specs.spk_nums.specs.{declared.replies.Reply.TheVariants.Ok, declared.replies.Value.TheVariants.Page}
use Rattle.kernel_history.specs.Trace.{Open, Trace}

-- Each translation that a core has cached names a user frame, and it stands: what it was found by is there still, or the core has decided
-- no flush since it was removed.
abbrev pub AllStand : State → ℕ → Type 0
AllStand s c = AllByRecursion (Stands s c) (s.core c).cached

-- So it is at each moment.
abbrev pub CachedFramesStay : Setting → Trace → Type 0
CachedFramesStay setup t = (c : ℕ) → c < setup.cores → AllStand (state_after setup t) c

-- Core c decides no flush among these steps after a trace.
abbrev pub FlushesNone : ℕ → Trace → Trace → Type 0
FlushesNone c [] t = Unit {0}
FlushesNone c (e ∷ u) t = FlushesNone c u t × (c ≡ e.core → flushes_at (u ++ t) e ≡ false)

-- What core c has cached in one state it has cached in another, and there it names user frames.
pub record IsKept (s s' : State) (c : ℕ) : Type 0 where
  pub begins : Begins (s.core c).cached (s'.core c).cached
  pub users : AllByRecursion (λ x. s'.frame x.frame ≡ User) (s.core c).cached

-- A translation stays cached till its core flushes, whatever steps come in between, and its frame is a user frame at each moment till
-- then: so the frame is not retyped since the translation was cached.
abbrev pub CachedTillFlush : Setting → Trace → Trace → Type 0
CachedTillFlush setup u t = (c : ℕ) → c < setup.cores
    → FlushesNone c u t → IsKept (state_after setup t) (state_after setup (u ++ t)) c

-- A step that decides a touch by a frame and flags leaves this translation cached, unless 64 others are: so it is what touches of the page
-- answer till the core flushes.
abbrev pub TouchesCache : Setting → Trace → Step → Type 0
TouchesCache setup t e = (v f : ℕ) (flags : PageFlags) → after_enter e.enters (phase t e.core) ≡ Open (Touch v)
    → e.decides ≡ Some (Ok (Page f flags))
    → Answers (state_before setup t e) (state_after setup (e ∷ t)) e.core
    (record { pages = (comp_of (state_before setup t e) e.core).pages; page = v; frame = f; flags = flags })
