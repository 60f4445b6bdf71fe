-- The footprint of a call: the frames and liveness numbers whose words its steps may be on.
use Rattle.std.specs.Prelude.{◌≡◌, ◌==◌, ◌∷◌, ◌++◌}
use Rattle.kernel_rules.specs.{ℕ, Bool, List, [], map, Option, Some, None, IsTrue, flat_map, Capability, Setting}
use Rattle.kernel_rules.specs.{Call, Retype, Map, Make, Frame, Kernel, Comp, thread_of, comp_of, named_by, frame_names, Slot, place_at}
use Rattle.kernel_rules.specs.{Rule, Name, Vacant, Held, Mapped, Does, Judged, Refused, Found, named, name_of, rule_of}
use Rattle.word_map.specs.{EntryAt, FrameAt, CountAt, CoreAt, FlushAt, LiveAt, ClockAt, word_of}
use Rattle.kernel_history.specs.{Ways.capability_in, Ways.wide_ways, Ways.target_of, Bounds.call_in, Trace.Step, Trace.Trace, Trace.phase}
use Rattle.{std.specs.List.list_any, entry_words.specs.spk_nums.specs.declared.calls.Call.TheVariants.Make as make_call}
use Rattle.{entry_words.specs.spk_nums.specs.declared.calls.Make.TheVariants.Comp as make_comp, word_map.specs.Word.Word}
use Rattle.{kernel_rules.specs.State.State, kernel_history.specs.Trace.after_enter, kernel_history.specs.Trace.WasBefore}

-- The frame that a capability names; a range names none.
abbrev pub frame_of_cap : Option Capability → List ℕ
frame_of_cap None = []
frame_of_cap (Some k) = named_by k.kind k.frame

-- The frame that a name has led to.
abbrev pub frame_of_name : Judged Capability → List ℕ
frame_of_name (Refused r) = []
frame_of_name (Found k) = named_by k.kind k.frame

-- The frames to which the names of a rule lead core c.
abbrev pub frames_named : State → ℕ → Rule → List ℕ
frames_named s c (Name n wanted rest) = frame_of_name (named s c n wanted) ++ frames_named s c (rest (name_of (named s c n wanted)))
frames_named s c (Vacant target rest) = []
frames_named s c (Held target rest) = []
frames_named s c (Mapped table v rest) = []
frames_named s c (Does causes value edits) = []

-- The frame that the entry at a slot names, also where it is removed.
abbrev pub frame_at_slot : State → Option Slot → List ℕ
frame_at_slot s None = []
frame_at_slot s (Some at) = frame_of_cap (capability_in (place_at s at))

-- The frame that is an argument of a call.
abbrev pub frame_argument : Call → List ℕ
frame_argument (Retype r f k) = f ∷ []
frame_argument (make_call what range frame table slot) = frame ∷ []
frame_argument (Map p v r f w) = f ∷ []
frame_argument _ = []

-- The liveness number that is an argument of a call.
abbrev pub number_of_make : Make → List ℕ
number_of_make (make_comp table pages live) = live ∷ []
number_of_make _ = []

abbrev pub number_argument : Call → List ℕ
number_argument (make_call what range frame table slot) = number_of_make what
number_argument _ = []

-- The frames that a call of core c is about: those that its names lead to, that its target's entry names, and its argument.
abbrev pub frames_about : State → ℕ → Call → List ℕ
frames_about s c call =
    frames_named s c (rule_of s c call) ++ (frame_at_slot s (target_of s c (rule_of s c call)) ++ frame_argument call)

-- The frames of core c itself: its thread, its temporal capability, the components of that thread, and the table and the pages
-- of the component that it works in.
abbrev pub frames_own : State → ℕ → List ℕ
frames_own s c =
    (s.core c).thread ∷ ((s.core c).tcap ∷ ((thread_of s c).stack ++ ((comp_of s c).table ∷ (comp_of s c).pages ∷ [])))

-- The frames of a call's footprint: the core's own, the nodes of its way, those that it is about, and the fields and the
-- stack's components of these.
abbrev pub footprint_frames : State → ℕ → Call → List ℕ
footprint_frames s c call =
    frames_own s c
    ++ (map (λ at. at.node) (wide_ways s c (rule_of s c call))
    ++ (frames_about s c call ++ flat_map (λ f. frame_names (s.frame f)) (frames_about s c call)))

-- The liveness number of the component in a frame.
abbrev pub number_in : Frame → List ℕ
number_in (Kernel (Comp k)) = k.number ∷ []
number_in _ = []

-- The liveness numbers of a call's footprint: its argument, and those of the components in it.
abbrev pub footprint_numbers : State → ℕ → Call → List ℕ
footprint_numbers s c call = number_argument call ++ flat_map (λ f. number_in (s.frame f)) (footprint_frames s c call)

-- The number is one of these.
abbrev pub is_one_of : ℕ → List ℕ → Bool
is_one_of n ns = list_any (λ m. m == n) ns

-- The word is in the footprint of a call of core c in the state: of a frame or a number of its footprint, or of a core or the clock.
abbrev pub IsInFootprint : ℕ → Call → Word → State → Type 0
IsInFootprint c call (EntryAt f i) s = IsTrue (is_one_of f (footprint_frames s c call))
IsInFootprint c call (FrameAt f) s = IsTrue (is_one_of f (footprint_frames s c call))
IsInFootprint c call (CountAt f d) s = IsTrue (is_one_of f (footprint_frames s c call))
IsInFootprint c call (CoreAt d) s = Unit {0}
IsInFootprint c call (FlushAt d) s = Unit {0}
IsInFootprint c call (LiveAt l) s = IsTrue (is_one_of l (footprint_numbers s c call))
IsInFootprint c call ClockAt s = Unit {0}

-- The step is on a word that is in the footprint of its call, as that is at some moment of the call so far.
pub record StepsInFootprint (setup : Setting) (t : Trace) (e : Step) : Type 0 where
  pub call : Call
  pub is_of : call_in (after_enter e.enters (phase t e.core)) ≡ Some call
  pub footprint : WasBefore (IsInFootprint e.core call (word_of e.move)) setup t e

-- Each step of the trace is in the footprint of its call.
abbrev pub KeepsFootprints : Setting → Trace → Type 0
KeepsFootprints setup [] = Unit {0}
KeepsFootprints setup (e ∷ t) = KeepsFootprints setup t × StepsInFootprint setup t e
