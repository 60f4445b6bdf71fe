-- What a call does, as a list of edits of the state: the state after, the references taken, and the grace periods begun, each
-- said once an edit.
use Rattle.std.specs.Prelude.{ℕ, ◌+◌, ◌-◌, ◌==◌, nat_lt, min, if◌then◌else◌, Bool, false, List, [], ◌∷◌, ◌++◌, length, take, drop, Option}
use Rattle.std.specs.Prelude.{Some, None}
use Rattle.spk_nums.specs.{Capability.Capability, declared.translations.Translation.Translation}
use Rattle.kernel_rules.specs.{State.CompFields, State.ThreadFields, State.TcapFields, State.Object, State.Comp, State.Thread, State.Tcap}
use Rattle.kernel_rules.specs.{State.Frame, State.Untyped, State.Kernel, State.Free, State.Holds, State.Quiescing, State.Live, State.Dead}
use Rattle.kernel_rules.specs.{State.Thing, State.PlaceOf, State.FrameOf, State.NumberOf, State.State, State.put, State.with_place}
use Rattle.kernel_rules.specs.{State.with_frame, State.with_number, State.with_core, State.with_grace, State.thread_in, State.tcap_in}
use Rattle.kernel_rules.specs.{State.thread_of, Start.no_grace, References.place_names, References.frame_names, References.number_names}
use Rattle.kernel_rules.specs.{GracePeriods.same_thing, GracePeriods.flushed, Access.Slot}

-- Whether a thing is a place of this node.
abbrev pub is_place_of : ℕ → Thing → Bool
is_place_of f (PlaceOf g i) = g == f
is_place_of f (FrameOf g) = false
is_place_of f (NumberOf l) = false

-- The state in which every place of a node is free, without a grace period.
abbrev pub cleared : State → ℕ → State
cleared s f = record s { place = put s.place f (λ i. Free); grace = λ x. if is_place_of f x then no_grace else s.grace x }

-- A frame with another thread in place of its thread.
abbrev pub with_thread : Frame → ThreadFields → Frame
with_thread (Kernel (Thread t)) u = Kernel (Thread u)
with_thread x u = x

-- The state in which the current thread of core c has another stack.
abbrev pub with_stack : State → ℕ → List ℕ → State
with_stack s c stack =
    with_frame s (s.core c).thread (with_thread (s.frame (s.core c).thread) (record (thread_of s c) { stack = stack }))

-- The state in which the thread of a frame runs on a core, or is idle.
abbrev pub running : State → ℕ → Option ℕ → State
running s f core = with_frame s f (with_thread (s.frame f) (record (thread_in (s.frame f)) { runs_on = core }))

-- The state in which the thread of core c is idle, and the core goes on as the thread h with the temporal capability q.
abbrev pub switched : State → ℕ → ℕ → ℕ → State
switched s c h q = with_core (running (running s (s.core c).thread None) h (Some c)) c (record (s.core c) { thread = h; tcap = q })

-- The list with one more translation, where it has room: it keeps 64.
abbrev pub caching : List Translation → Translation → List Translation
caching cached t = if nat_lt (length cached) 64 then cached ++ t ∷ [] else cached

-- The temporal capability of a frame.
abbrev pub tcap_at : State → ℕ → TcapFields
tcap_at s f = tcap_in (s.frame f)

-- A frame with another temporal capability in place of its own.
abbrev pub with_tcap : Frame → TcapFields → Frame
with_tcap (Kernel (Tcap q)) p = Kernel (Tcap p)
with_tcap x p = x

-- The state in which the temporal capability of a frame has this budget.
abbrev pub with_budget : State → ℕ → ℕ → State
with_budget s f budget = with_frame s f (with_tcap (s.frame f) (record (tcap_at s f) { budget = budget }))

-- The state in which the temporal capability of a frame has this list.
abbrev pub with_qualities : State → ℕ → List (ℕ × ℕ) → State
with_qualities s f qualities = with_frame s f (with_tcap (s.frame f) (record (tcap_at s f) { qualities = qualities }))

-- The ticks that are charged of those due: as far as the current temporal capability has budget.
abbrev pub charge : State → ℕ → ℕ → ℕ
charge s c due = min due (tcap_at s (s.core c).tcap).budget

-- The state in which so many ticks of those due are charged: they leave the current temporal capability's budget and are spent,
-- and the rest stays owed.
abbrev pub charging : State → ℕ → ℕ → ℕ → State
charging s c due charged =
    with_core (with_budget s (s.core c).tcap ((tcap_at s (s.core c).tcap).budget - charged)) c
    (record (s.core c) { spent = (s.core c).spent + charged; owed = due - charged })

-- The state in which m ticks have moved from one temporal capability to another.
abbrev pub moved : State → ℕ → ℕ → ℕ → State
moved s a b m = with_budget (with_budget s a ((tcap_at s a).budget - m)) b ((tcap_at s b).budget + m)

-- The state in which core c has had m ticks back, which are in the budget of a temporal capability.
abbrev pub given_back : State → ℕ → ℕ → ℕ → State
given_back s c f m =
    with_core (with_budget s f ((tcap_at s f).budget + m)) c (record (s.core c) { back = (s.core c).back + m })

-- One edit of the state by a core: a place is filled or removed; a frame has a node whose places are free, has another object,
-- is untyped, or has a component with its number; a number dies; the core's thread enters a component or leaves one; the core
-- goes on as a thread with a temporal capability; it caches, flushes, is charged ticks beside those owed; ticks move; a list of
-- qualities is put; ticks that it has spent are given back.
pub data Edit : Type 0 where
  Fill : Slot → Capability → Edit
  Remove : Slot → Capability → Edit
  Node : ℕ → Object → Edit
  Become : ℕ → Frame → Edit
  Untype : ℕ → Edit
  Component : ℕ → CompFields → Edit
  Deaden : ℕ → ℕ → Edit
  Push : ℕ → Edit
  Pop : Edit
  Switch : ℕ → ℕ → Edit
  Cache : Translation → Edit
  Flush : Edit
  Charge : ℕ → Edit
  Move : ℕ → ℕ → ℕ → Edit
  Merge : ℕ → List (ℕ × ℕ) → Edit
  Give : ℕ → ℕ → Edit

-- The state after one edit of core c.
abbrev pub edited : ℕ → State → Edit → State
edited c s (Fill at k) = with_place s at.node at.index (Holds k)
edited c s (Remove at k) = with_place s at.node at.index (Quiescing k)
edited c s (Node f object) = with_frame (cleared s f) f (Kernel object)
edited c s (Become f x) = with_frame s f x
edited c s (Untype f) = with_grace (with_frame s f Untyped) (λ x. if same_thing x (FrameOf f) then no_grace else s.grace x)
edited c s (Component f k) = with_frame (with_number s k.number (Live k.epoch f)) f (Kernel (Comp k))
edited c s (Deaden l e) = with_number s l (Dead e)
edited c s (Push f) = with_stack s c (f ∷ (thread_of s c).stack)
edited c s Pop = with_stack s c (drop 1 (thread_of s c).stack)
edited c s (Switch h q) = switched s c h q
edited c s (Cache t) = with_core s c (record (s.core c) { cached = caching (s.core c).cached t })
edited c s Flush = flushed s c
edited c s (Charge n) = charging s c (n + (s.core c).owed) (charge s c (n + (s.core c).owed))
edited c s (Move a b m) = moved s a b m
edited c s (Merge f qs) = with_qualities s f qs
edited c s (Give f m) = given_back s c f m

-- The frames to which an edit takes a reference: those which what it puts names, that of a component that it makes live or
-- enters, and the thread and the temporal capability with which a core goes on. A temporal capability that stays is not taken.
abbrev pub takes_in : ℕ → State → Edit → List ℕ
takes_in c s (Fill at k) = place_names (Holds k)
takes_in c s (Become f x) = frame_names x
takes_in c s (Node f object) = frame_names (Kernel object)
takes_in c s (Component f k) = f ∷ frame_names (Kernel (Comp k))
takes_in c s (Push f) = f ∷ []
takes_in c s (Switch h q) = h ∷ (if q == (s.core c).tcap then [] else q ∷ [])
takes_in c s _ = []

-- The frames, each as a thing.
abbrev pub frames_of : List ℕ → List Thing
frames_of [] = []
frames_of (f ∷ fs) = FrameOf f ∷ frames_of fs

-- The things whose grace periods an edit begins: a place that it removes, a number that dies, and each frame to which it releases
-- a reference.
abbrev pub begins_in : ℕ → State → Edit → List Thing
begins_in c s (Remove at k) = PlaceOf at.node at.index ∷ frames_of (place_names (Holds k))
begins_in c s (Untype f) = frames_of (frame_names (s.frame f))
begins_in c s (Deaden l e) = NumberOf l ∷ frames_of (number_names (s.number l))
begins_in c s Pop = frames_of (take 1 (thread_of s c).stack)
begins_in c s (Switch h q) = frames_of ((s.core c).thread ∷ (if q == (s.core c).tcap then [] else (s.core c).tcap ∷ []))
begins_in c s _ = []

-- The state after a list of edits, the first first.
abbrev pub after_edits : ℕ → State → List Edit → State
after_edits c s [] = s
after_edits c s (e ∷ es) = after_edits c (edited c s e) es

-- The frames to which a list of edits takes references, the last first.
abbrev pub takes_all : ℕ → State → List Edit → List ℕ
takes_all c s [] = []
takes_all c s (e ∷ es) = takes_all c (edited c s e) es ++ takes_in c s e

-- The things whose grace periods a list of edits begins, the last first.
abbrev pub begins_all : ℕ → State → List Edit → List Thing
begins_all c s [] = []
begins_all c s (e ∷ es) = begins_all c (edited c s e) es ++ begins_in c s e
