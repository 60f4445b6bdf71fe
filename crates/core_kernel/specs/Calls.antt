-- What a seat's trace is after a call and after a meet, and what all seats leave behind.
use Rattle.std.specs.Prelude.{◌≡◌, ◌∷◌, ◌++◌}
use Rattle.flight_laws.specs.core_invariant.specs.{ℕ, List, [], length, slice_get, Some, Call, Reply, CoreEnd, size_of}
use Rattle.flight_laws.specs.core_invariant.specs.{shape_of, RepresentCounts, Represent, word_in, end_in, Trace, Out, phase, calls_of}
use Rattle.core_kernel.specs.Replies.{replies_of, AreOfOthers, EndsWith}
use Rattle.core_kernel.specs.Kernel.{KernelValue, CoreSeatValue, CoreNoteValue}
use Rattle.{flight_laws.specs.core_invariant.specs.state_after, flight_laws.specs.Histories.IsHistory}

-- What each seat has seen is a history of the machine, after which its core is between calls.
pub record HasSeen (seat : CoreSeatValue) : Type 0 where
  pub history : IsHistory seat.kernel.setup seat.seen
  pub between : phase seat.seen seat.core ≡ Out

-- The newer trace begins with the older one, and goes on by steps of other cores than c.
pub record ExtendsByOthers (c : ℕ) (older newer : Trace) : Type 0 where
  pub since : Trace
  pub begins : newer ≡ since ++ older
  pub apart : AreOfOthers c since

-- The newer trace begins with the older one.
pub record Extends (older newer : Trace) : Type 0 where
  pub since : Trace
  pub begins : newer ≡ since ++ older

-- The seat's core has made this call, and was answered r: its trace goes on by steps among which its core's are those of one
-- call more, decided with r, and ends where this call returns r.
pub record MakesCall (seat : CoreSeatValue) (call : Call) (r : Reply) (made : CoreSeatValue) : Type 0 where
  pub since : Trace
  pub begins : made.seen ≡ since ++ seat.seen
  pub calls : calls_of since seat.core ≡ call ∷ []
  pub replies : replies_of since seat.core ≡ r ∷ []
  pub returns : EndsWith seat.core r made.seen
  pub core : made.core ≡ seat.core
  pub kernel : made.kernel ≡ seat.kernel

-- The seat has met the note: its trace begins with what both had seen, and has no further step of its core.
pub record Meets (seat : CoreSeatValue) (note : CoreNoteValue) (met : CoreSeatValue) : Type 0 where
  pub own : ExtendsByOthers seat.core seat.seen met.seen
  pub told : Extends note.seen met.seen
  pub core : met.core ≡ seat.core
  pub kernel : met.kernel ≡ seat.kernel

-- The words and ends are those after one history of the machine. It begins with what each seat has seen and has no
-- further step of the seat's core, and all its calls have returned. They represent the state that it leaves, and the count words
-- the references to its frames.
pub record EndsAt (kernel : KernelValue) (seats : List CoreSeatValue) (words : List ℕ) (ends : List CoreEnd) : Type 0 where
  pub trace : Trace
  pub history : IsHistory kernel.setup trace
  pub begins : (k : ℕ) (s : CoreSeatValue) → slice_get seats k ≡ Some s → ExtendsByOthers s.core s.seen trace
  pub returned : (c : ℕ) → phase trace c ≡ Out
  pub represent : Represent (word_in (shape_of kernel.setup) words) (end_in ends) (state_after kernel.setup trace)
  pub counts : RepresentCounts (word_in (shape_of kernel.setup) words) (state_after kernel.setup trace)
  pub word_count : length words ≡ size_of (shape_of kernel.setup)
  pub end_count : length ends ≡ kernel.setup.cores
