-- The parts of the plain kernel's state, read as those of the definitions.
use Rattle.seq_state.specs.{declared.parts.Place.Place, declared.parts.CompFields.CompFields, declared.parts.ThreadFields.ThreadFields}
use Rattle.seq_state.specs.{declared.parts.TcapFields.TcapFields, declared.parts.Object.Object, declared.parts.Frame.Frame}
use Rattle.seq_state.specs.{declared.parts.Liveness.Liveness, declared.parts.Core.Core, declared.parts.Thing.Thing}
use Rattle.kernel_invariant.specs.kernel_rules.specs.State as state

-- A place.
abbrev pub place_held : Place → state.Place
place_held Place.Free = state.Free
place_held (Place.Holds k) = state.Holds k
place_held (Place.Quiescing k) = state.Quiescing k

-- The fields of a component.
abbrev pub comp_fields_of : CompFields → state.CompFields
comp_fields_of k = record { table = k.table; pages = k.pages; number = k.number; epoch = k.epoch }

-- The fields of a thread.
abbrev pub thread_fields_of : ThreadFields → state.ThreadFields
thread_fields_of t = record { stack = t.stack; runs_on = t.runs_on }

-- The fields of a temporal capability.
abbrev pub tcap_fields_of : TcapFields → state.TcapFields
tcap_fields_of q = record { budget = q.budget; qualities = q.qualities }

-- An object.
abbrev pub object_of : Object → state.Object
object_of Object.Blank = state.Blank
object_of Object.Table = state.Table
object_of Object.Leaf = state.Leaf
object_of Object.Pages = state.Pages
object_of Object.Pleaf = state.Pleaf
object_of (Object.Comp k) = state.Comp (comp_fields_of k)
object_of (Object.Thread t) = state.Thread (thread_fields_of t)
object_of (Object.Tcap q) = state.Tcap (tcap_fields_of q)

-- A frame.
abbrev pub frame_of : Frame → state.Frame
frame_of Frame.Untyped = state.Untyped
frame_of Frame.User = state.User
frame_of (Frame.Kernel x) = state.Kernel (object_of x)

-- A liveness number.
abbrev pub number_of : Liveness → state.Liveness
number_of Liveness.Unused = state.Unused
number_of (Liveness.Live epoch f) = state.Live epoch f
number_of (Liveness.Dead epoch) = state.Dead epoch

-- A core.
abbrev pub core_of : Core → state.Core
core_of k = record {
  inside = k.inside;
  thread = k.thread;
  tcap = k.tcap;
  cached = k.cached;
  spent = k.spent;
  back = k.back;
  owed = k.owed;
  counted = k.counted;
  grant = k.grant;
}

-- A thing.
abbrev pub thing_of : Thing → state.Thing
thing_of (Thing.PlaceOf f i) = state.PlaceOf f i
thing_of (Thing.FrameOf f) = state.FrameOf f
thing_of (Thing.NumberOf l) = state.NumberOf l
