-- What a switch holds of the words of threads, and what it knows: the thread to which it goes on, the component at the top of its stack,
-- and the thread that it leaves.
use Rattle.std.specs.Prelude.{◌≡◌, ◌≢◌, ◌∷◌}
use Rattle.kernel_history.specs.{ℕ, Bool, true, false, length, List, [], Some, IsTrue, Capability, Setting, Call, Switch, word_of_thread}
use Rattle.kernel_history.specs.{Idle, Running, EntryAt, State, comp_in, first_of_stack, thread_in, thread_of, fits, IsGuarded}
use Rattle.kernel_history.specs.{changes_threads, IsInFootprint, WasAt, own_read, state_after, Kind}
use Rattle.act_fits.specs.act_states.specs.{Claim as ClaimOf, AtStack, Claimed}
use Rattle.act_fits.specs.stage_thread.specs.declared.claim.Claim.TheVariants.{AtLoad, AtCompare}
use Rattle.act_fits.specs.act_states.specs.declared.switches.SwitchAt.TheVariants.{Claim, LoadTable, LoadPages, Leave, Draw}
use Rattle.core_invariant.specs.{Holding.Holding, Holding.keeps, Frozen.holds_all, Components.HasComp}
use Rattle.act_fits.specs.act_states.specs.Switches.{switching_keeps}
use Rattle.{kernel_history.specs.Trace.Trace, act_fits.specs.act_states.specs.declared.switches.Switching.Switching}
use Rattle.{act_fits.specs.act_states.specs.declared.switches.SwitchAt.SwitchAt}

-- A thread that is claimed stands for the idle one that was found.
abbrev pub holds_idle : ℕ → ℕ → Holding → Holding
holds_idle f depth h = keeps (EntryAt f 0) (word_of_thread (Idle depth)) h

-- So does the core's own thread for the running one, from when it is stored as claimed.
abbrev pub holds_switching : Switching → SwitchAt → Holding → Holding
holds_switching m at h = holds_all (switching_keeps m at) h

-- After the decision the thread stands for the running one, and the thread that was left for an idle one.
abbrev pub holds_running : ℕ → ℕ → ℕ → ℕ → ℕ → Holding → Holding
holds_running f core depth old old_depth h =
    keeps (EntryAt f 0) (word_of_thread (Running core depth)) (holds_idle old old_depth h)

-- The frame of the thread to which it goes on, and whether this is claimed.
abbrev pub claimed_by : SwitchAt → ℕ
claimed_by (Claim (AtLoad f core)) = f
claimed_by (Claim (AtCompare f core depth)) = f
claimed_by (Claim (AtStack f depth)) = f
claimed_by (LoadTable to) = to.thread
claimed_by (LoadPages to table) = to.thread
claimed_by (Leave to table pages) = to.thread
claimed_by (Draw to table pages) = to.thread

abbrev pub is_claimed : SwitchAt → Bool
is_claimed (Claim (AtLoad f core)) = false
is_claimed (Claim (AtCompare f core depth)) = false
is_claimed (Claim (AtStack f depth)) = true
is_claimed (LoadTable to) = true
is_claimed (LoadPages to table) = true
is_claimed (Leave to table pages) = true
is_claimed (Draw to table pages) = true

-- A thread that no other core may retype.
pub record HasThread (s : State) (c f : ℕ) : Type 0 where
  pub thread : IsTrue (fits Kind.Thread (s.frame f))
  pub guarded : IsGuarded s c f

-- The call goes on as the thread to which its first name has led, with the temporal capability to which its second has led.
pub record IsSwitched (f q : ℕ) (to by : Capability) : Type 0 where
  pub thread : f ≡ to.frame
  pub tcap : q ≡ by.frame

abbrev pub SwitchesBy : Call → List Capability → ℕ → ℕ → Type 0
SwitchesBy (Switch h q) (thread ∷ tcap ∷ []) f g = IsSwitched f g thread tcap
SwitchesBy call ks f g = ⊥

-- It leaves the thread of its core, and its temporal capability.
pub record LeavesOwn (s : State) (c : ℕ) (m : Switching) : Type 0 where
  pub core : m.core ≡ c
  pub thread : m.old ≡ (s.core c).thread
  pub depth : m.old_depth ≡ length (thread_of s c).stack
  pub tcap : m.old_tcap ≡ (s.core c).tcap

-- The component at the top of the stack of a claimed thread, which no other core may retype.
pub record IsTop (s : State) (c : ℕ) (to : Claimed) : Type 0 where
  pub top : first_of_stack (thread_in (s.frame to.thread)).stack ≡ to.comp
  pub comp : HasComp s c to.comp

-- Its table, and its pages.
pub record HasTable (s : State) (c : ℕ) (to : Claimed) (root : ℕ) : Type 0 where
  pub top : IsTop s c to
  pub table : (comp_in (s.frame to.comp)).table ≡ root

pub record HasRoots (s : State) (c : ℕ) (to : Claimed) (table root : ℕ) : Type 0 where
  pub has_table : HasTable s c to table
  pub pages : (comp_in (s.frame to.comp)).pages ≡ root

-- Before the compare, the call's last step on the thread's word has read there the idle word that is expected.
abbrev pub KnowsClaim : Trace → ℕ → ClaimOf → Type 0
KnowsClaim t c (AtLoad f core) = core ≡ c
KnowsClaim t c (AtCompare f core depth) = (core ≡ c) × (own_read t c (EntryAt f 0) ≡ Some (word_of_thread (Idle depth)))
KnowsClaim t c (AtStack f depth) = Unit {0}

abbrev pub KnowsSwitchAt : Setting → Trace → ℕ → SwitchAt → Type 0
KnowsSwitchAt setup t c (Claim claim) = KnowsClaim t c claim
KnowsSwitchAt setup t c (LoadTable to) = IsTop (state_after setup t) c to
KnowsSwitchAt setup t c (LoadPages to table) = HasTable (state_after setup t) c to table
KnowsSwitchAt setup t c (Leave to table pages) = HasRoots (state_after setup t) c to table pages
KnowsSwitchAt setup t c (Draw to table pages) = HasRoots (state_after setup t) c to table pages

pub record KnowsSwitch (setup : Setting) (t : Trace) (c : ℕ) (call : Call) (ks : List Capability) (m : Switching) : Type 0 where
  pub switches : SwitchesBy call ks (claimed_by m.at) m.tcap
  pub leaves : LeavesOwn (state_after setup t) c m
  pub thread : HasThread (state_after setup t) c (claimed_by m.at)
  pub at : KnowsSwitchAt setup t c m.at

-- A thread whose word is still to be stored as idle: no other core may retype it, and it is in the call's footprint at a moment of it.
pub record KnowsIdle (setup : Setting) (t : Trace) (c : ℕ) (call : Call) (f : ℕ) : Type 0 where
  pub threads : changes_threads call ≡ true
  pub footprint : WasAt (IsInFootprint c call (EntryAt f 0)) setup t c
  pub thread : HasThread (state_after setup t) c f

-- The thread whose word is still to be stored as running is that of the core, and the one that it has left is another.
pub record KnowsRunning (setup : Setting) (t : Trace) (c : ℕ) (call : Call) (f by old : ℕ) : Type 0 where
  pub core : by ≡ c
  pub own : f ≡ ((state_after setup t).core c).thread
  pub footprint : WasAt (IsInFootprint c call (EntryAt f 0)) setup t c
  pub apart : f ≢ old
  pub rest : KnowsIdle setup t c call old
