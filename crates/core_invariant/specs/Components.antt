-- What a call knows of components, of the words of one that it has read, and of the stack of its core's thread.
use Rattle.std.specs.Prelude.{◌≡◌, ◌∷◌}
use Rattle.act_fits.specs.act_states.specs.{ℕ, List, [], drop, length, Option, Some, None, IsTrue, Capability, Call, Ret}
use Rattle.act_fits.specs.act_states.specs.{CompFits, CompWord, CompFields, State, first_of_stack, thread_of, comp_in, fits, IsGuarded}
use Rattle.kernel_history.specs.spk_nums.specs.declared.kinds.Kind.TheVariants.{Comp as comp_kind, Gate as gate_kind}
use Rattle.kernel_history.specs.spk_nums.specs.declared.calls.Call.TheVariants.{Call as call_gate}
use Rattle.act_fits.specs.act_states.specs.{declared.invocations.Invoking.Invoking, declared.invocations.InvokingAt.InvokingAt}
use Rattle.act_fits.specs.act_states.specs.{declared.invocations.Returning.Returning, declared.invocations.ReturningAt.ReturningAt}

-- A component that no other core may retype.
pub record HasComp (s : State) (c f : ℕ) : Type 0 where
  pub comp : IsTrue (fits comp_kind (s.frame f))
  pub guarded : IsGuarded s c f

-- The component of a frame has this liveness number and epoch.
pub record HasLife (s : State) (f : ℕ) (life : CompWord) : Type 0 where
  pub number : (comp_in (s.frame f)).number ≡ life.number
  pub epoch : (comp_in (s.frame f)).epoch ≡ life.epoch

-- The word of the component in this frame has been read: this is its epoch, and no other core may retype it.
pub record IsRead (s : State) (c f : ℕ) (read : Option ℕ) : Type 0 where
  pub comp : HasComp s c f
  pub life : CompWord
  pub has_life : HasLife s f life
  pub fits : CompFits life
  pub epoch : read ≡ Some life.epoch

-- A call that reads the word of a component, of which this is the frame, before it looks its target up, has read this.
abbrev pub ReadIs : State → ℕ → Option ℕ → Option ℕ → Type 0
ReadIs s c None read = Unit {0}
ReadIs s c (Some f) read = IsRead s c f read

-- The core works on this thread, whose stack is so deep.
pub record IsOnThread (s : State) (c f n : ℕ) : Type 0 where
  pub thread : f ≡ (s.core c).thread
  pub depth : n ≡ length (thread_of s c).stack

-- The call enters the component of the gate to which its name has led, in the gate's epoch.
pub record IsInvoked (gate : Capability) (m : Invoking) : Type 0 where
  pub kind : gate.kind ≡ gate_kind
  pub frame : m.comp ≡ gate.frame
  pub epoch : m.epoch ≡ gate.arg

abbrev pub InvokesBy : Call → List Capability → Invoking → Type 0
InvokesBy (call_gate name) (gate ∷ []) m = IsInvoked gate m
InvokesBy call ks m = ⊥

-- The words of the component that have been loaded.
abbrev pub HasLoadedComp : CompFields → InvokingAt → Type 0
HasLoadedComp k InvokingAt.LoadTable = Unit {0}
HasLoadedComp k (InvokingAt.LoadPages table) = table ≡ k.table
HasLoadedComp k (InvokingAt.LoadComp table pages) = (table ≡ k.table) × (pages ≡ k.pages)
HasLoadedComp k (InvokingAt.LoadLive table pages life) =
    (table ≡ k.table) × (pages ≡ k.pages) × (k.number ≡ life.number) × (k.epoch ≡ life.epoch)

pub record KnowsInvoking (s : State) (c : ℕ) (call : Call) (ks : List Capability) (m : Invoking) : Type 0 where
  pub invokes : InvokesBy call ks m
  pub core : m.core ≡ c
  pub on : IsOnThread s c m.thread m.depth
  pub comp : HasComp s c m.comp
  pub at : HasLoadedComp (comp_in (s.frame m.comp)) m.at

-- The component below the top of a stack.
abbrev pub below_of : List ℕ → ℕ
below_of stack = first_of_stack (drop 1 stack)

-- This is the component below the top of the core's stack.
pub record IsBelow (s : State) (c f : ℕ) : Type 0 where
  pub is : f ≡ below_of (thread_of s c).stack
  pub comp : HasComp s c f

-- It has been loaded, and these words of it.
abbrev pub HasLoadedBelow : State → ℕ → ReturningAt → Type 0
HasLoadedBelow s c ReturningAt.LoadBelow = Unit {0}
HasLoadedBelow s c (ReturningAt.LoadTable comp) = IsBelow s c comp
HasLoadedBelow s c (ReturningAt.LoadPages comp table) = IsBelow s c comp × (table ≡ (comp_in (s.frame comp)).table)
HasLoadedBelow s c (ReturningAt.Draw comp table pages) =
    IsBelow s c comp × (table ≡ (comp_in (s.frame comp)).table) × (pages ≡ (comp_in (s.frame comp)).pages)

pub record KnowsReturning (s : State) (c : ℕ) (call : Call) (m : Returning) : Type 0 where
  pub call_is : call ≡ Ret
  pub core : m.core ≡ c
  pub on : IsOnThread s c m.thread m.depth
  pub top : m.top ≡ first_of_stack (thread_of s c).stack
  pub at : HasLoadedBelow s c m.at
