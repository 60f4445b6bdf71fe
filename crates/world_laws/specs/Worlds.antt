-- Worlds: sets of frames that nothing outside holds.
use Rattle.authority_laws.specs.kernel_rules.specs as low
use Rattle.std.specs.Prelude.{◌≡◌, ◌≢◌}
use low.{ℕ, Bool, true, false, not, Some, IsTrue, Capability, has_rights, right_to_use, Kind, CompFields, Comp, Kernel, comp_in}
use low.{thread_of, first_of_stack, found, usable, has_frame, is_live_in, State.State}

-- The frame of the component in which a core works: the one on top of its current thread's stack.
abbrev pub works_in : State → ℕ → ℕ
works_in s c = first_of_stack (thread_of s c).stack

-- Whether the component in a frame lives.
abbrev pub lives_at : State → ℕ → Bool
lives_at s f = is_live_in (s.number (comp_in (s.frame f)).number) (comp_in (s.frame f)).epoch

-- A capability leads to a frame: a range to each that it has, any other to its own.
abbrev pub LeadsTo : Kind → Capability → ℕ → Type 0
LeadsTo Kind.Range k f = has_frame (found k) f ≡ true
LeadsTo _ k f = f ≡ k.frame

-- Gates alone may cross from world to world.
abbrev pub gates : Kind → Bool
gates Kind.Gate = true
gates _ = false

-- A capability holds nothing of a world: it may not be used, or is of a kind that may cross, or leads outside alone.
abbrev pub HoldsNone : (ℕ → Bool) → (Kind → Bool) → Capability → Type 0
HoldsNone w crosses k = IsTrue (has_rights k.rights right_to_use) → crosses k.kind ≡ false → (f : ℕ) → LeadsTo k.kind k f → w f ≡ false

-- A world is sealed: no place outside has a capability for any core, also one that was removed and still serves a call, that holds
-- something of it; and no component outside has its table or its pages there.
pub record IsSealed (w : ℕ → Bool) (crosses : Kind → Bool) (s : State) : Type 0 where
  pub places : (f i d : ℕ) (k : Capability) → w f ≡ false → usable s d (record { node = f; index = i }) ≡ Some k → HoldsNone w crosses k
  pub comps : (f : ℕ) (k : CompFields) → w f ≡ false → s.frame f ≡ Kernel (Comp k) → (w k.table ≡ false) × (w k.pages ≡ false)

-- Nothing but gates may cross; so it is where nothing crosses at all.
abbrev pub OnlyGates : (Kind → Bool) → Type 0
OnlyGates crosses = (k : Kind) → gates k ≡ false → crosses k ≡ false

-- Two worlds, a set of frames and the rest, are joined by what may cross alone.
pub record AreApart (w : ℕ → Bool) (crosses : Kind → Bool) (s : State) : Type 0 where
  pub inside : IsSealed w crosses s
  pub outside : IsSealed (λ f. not (w f)) crosses s

-- From s to t nothing of a world changes but the thread and the temporal capability on which core c runs.
pub record LeavesAlone (w : ℕ → Bool) (s t : State) (c : ℕ) : Type 0 where
  pub frame : (f : ℕ) → w f ≡ true → f ≢ (s.core c).thread → f ≢ (s.core c).tcap → t.frame f ≡ s.frame f
  pub place : (f i : ℕ) → w f ≡ true → t.place f i ≡ s.place f i
  pub life : (f : ℕ) → w f ≡ true → lives_at t f ≡ lives_at s f
  pub core : (d : ℕ) → d ≢ c → t.core d ≡ s.core d
