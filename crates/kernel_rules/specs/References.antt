-- The references to a frame, by counting afresh. A range names frames without a reference to them.
use Rattle.std.specs.Prelude.{ℕ, zero, suc, ◌+◌, ◌==◌, List, [], ◌∷◌, count_by}
use Rattle.spk_nums.specs.declared.kinds.Kind.{Kind}
use Rattle.kernel_rules.specs.State.{Place, Free, Holds, Quiescing, Frame, Kernel, Comp, Thread, Liveness, Unused, Live, Dead, Core, State}

-- The frame to which a capability of a kind has a reference, if it has one.
abbrev pub named_by : Kind → ℕ → List ℕ
named_by Kind.Range f = []
named_by _ f = f ∷ []

-- The frame to which a place has a reference: what it holds.
abbrev pub place_names : Place → List ℕ
place_names Free = []
place_names (Holds k) = named_by k.kind k.frame
place_names (Quiescing k) = []

-- The frames to which an object has references: a component's table and pages, and each component on a thread's stack.
abbrev pub frame_names : Frame → List ℕ
frame_names (Kernel (Comp k)) = k.table ∷ k.pages ∷ []
frame_names (Kernel (Thread t)) = t.stack
frame_names _ = []

-- The frame to which a liveness number has a reference: that of its live component.
abbrev pub number_names : Liveness → List ℕ
number_names Unused = []
number_names (Live epoch f) = f ∷ []
number_names (Dead epoch) = []

-- The frames to which a core has references: its current thread and temporal capability.
abbrev pub core_names : Core → List ℕ
core_names k = k.thread ∷ k.tcap ∷ []

-- The sum of a function over the numbers below n.
unfoldable pub sum_below : (ℕ → ℕ) → ℕ → ℕ
sum_below f zero = 0
sum_below f (suc n) = sum_below f n + f n

-- How often a list names a frame.
abbrev pub times : ℕ → List ℕ → ℕ
times f fs = count_by (λ g. g == f) fs

-- The references to a frame that stand in the places of a node; those of a frame that is no node hold nothing.
unfoldable pub node_refs : State → ℕ → ℕ → ℕ
node_refs s f g = sum_below (λ i. times f (place_names (s.place g i))) 64

-- The references to a frame: those of all places, objects, cores and liveness numbers.
unfoldable pub refs : State → ℕ → ℕ
refs s f =
    sum_below (node_refs s f) s.limits.frames
    + sum_below (λ g. times f (frame_names (s.frame g))) s.limits.frames
    + sum_below (λ c. times f (core_names (s.core c))) s.limits.cores
    + sum_below (λ l. times f (number_names (s.number l))) 64
