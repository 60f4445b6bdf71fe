-- Frames that are made untyped again: what then held, and which frames stay as they are.
use Rattle.std.specs.Prelude.{◌≡◌, ◌≢◌, ◌<◌, ◌==◌, ◌⊎◌, ◌∷◌, ◌++◌}
use Rattle.kernel_history.specs.{ℕ, Bool, true, false, [], Option, Some, None, IsTrue, Setting, Call}
use Rattle.kernel_history.specs.{Retype, Value, entry_of_word, Entry, Held, word_of, EntryAt, CountAt, FrameOf, State, refs, is_node}
use Rattle.kernel_history.specs.{marked_by, Step, phase, after_enter, state_after, state_before, own_read, reads}
use Rattle.state_laws.specs.spk_nums.specs.{declared.kinds.FrameKind.TheVariants.Untyped, declared.replies.Reply.TheVariants.Ok}
use Rattle.kernel_history.specs.Trace.{Trace, Open}

-- The step e after t decides `ok` of a retype of the frame to untyped.
pub record MakesUntyped (t : Trace) (e : Step) (f : ℕ) : Type 0 where
  pub range : ℕ
  pub value : Value
  pub decides : e.decides ≡ Some (Ok value)
  pub call : after_enter e.enters (phase t e.core) ≡ Open (Retype range f Untyped)

-- No reference to the frame is left, no core but c is waited for, and each core has flushed.
pub record IsUnused (s : State) (c f : ℕ) : Type 0 where
  pub none : refs s f ≡ 0
  pub waits : (d : ℕ) → d < s.limits.cores → d ≢ c → (s.grace (FrameOf f)).waits d ≡ false
  pub flushed : (d : ℕ) → d < s.limits.cores → (s.grace (FrameOf f)).unflushed d ≡ false

-- A frame that is made untyped is unused at that moment, but by the core that makes it so.
abbrev pub UntypedFramesAreUnused : Setting → Trace → Step → Type 0
UntypedFramesAreUnused setup t e = (f : ℕ) → MakesUntyped t e f → IsUnused (state_before setup t e) e.core f

-- While a core holds a count of a frame, no other makes the frame untyped.
abbrev pub CountedFramesStay : Setting → Trace → Step → Type 0
CountedFramesStay setup t e = (f : ℕ) → MakesUntyped t e f → (d : ℕ) → d < setup.cores
    → (c : ℕ) → marked_by setup t (CountAt f d) ≡ Some c → c ≡ e.core

-- The call of core c goes on through the steps u after t: it does not return, and does not itself make the frame untyped.
abbrev pub GoesOn : Trace → Trace → ℕ → ℕ → Type 0
GoesOn [] t c f = Unit {0}
GoesOn (e ∷ u) t c f = GoesOn u t c f × (e.core ≡ c → (e.returns ≡ None) × (MakesUntyped (u ++ t) e f → ⊥))

-- Where a call looks a number or its target up, it has read this word of an entry there. A retype to untyped also reads the entries of its
-- own frame, to see whether they are free; what it finds held there refuses it.
abbrev pub is_held : Option Entry → Bool
is_held (Some (Held k)) = true
is_held _ = false

-- The call is a retype to untyped.
abbrev pub untypes : Call → Bool
untypes (Retype range f Untyped) = true
untypes call = false

abbrev pub IsLooked : Call → ℕ → Type 0
IsLooked call w = (untypes call ≡ false) ⊎ (is_held (entry_of_word w) ≡ true)

-- A node through which a call has looked stays what it is till the call returns, but where the call makes it untyped itself.
abbrev pub LookedNodesStay : Setting → Trace → Trace → Type 0
LookedNodesStay setup u t = (c : ℕ) (call : Call) → phase t c ≡ Open call
    → (f i w : ℕ) → own_read t c (EntryAt f i) ≡ Some w → IsLooked call w
    → IsTrue (is_node ((state_after setup t).frame f)) → GoesOn u t c f
    → (state_after setup (u ++ t)).frame f ≡ (state_after setup t).frame f

-- The call is asked to make this frame untyped.
abbrev pub asks_untyped : Call → ℕ → Bool
asks_untyped (Retype range g Untyped) f = f == g
asks_untyped _ f = false

-- The step e after t is one of a call that is not decided yet, and reads an entry of the node f, which is not the frame that the call is
-- asked to make untyped. It may decide the call.
pub record ReadsNode (setup : Setting) (t : Trace) (e : Step) (f : ℕ) : Type 0 where
  pub call : Call
  pub is_open : phase t e.core ≡ Open call
  pub apart : asks_untyped call f ≡ false
  pub node : IsTrue (is_node ((state_after setup t).frame f))
  pub entry : ℕ
  pub on : word_of e.move ≡ EntryAt f entry
  pub by_read : reads e.move ≡ true

-- A node of which a call reads an entry stays what it is from then on till the call returns, also where that step decides the call.
abbrev pub ReadNodesStay : Setting → Trace → Trace → Type 0
ReadNodesStay setup u [] = Unit {0}
ReadNodesStay setup u (e ∷ t) = (f : ℕ) → ReadsNode setup t e f → e.returns ≡ None → GoesOn u (e ∷ t) e.core f
    → (state_after setup (u ++ e ∷ t)).frame f ≡ (state_after setup t).frame f
