-- What the crates above name through this one.
pub use Rattle.boot_words.specs.frame_words
pub use Rattle.turn_rule
-- What a caller names through this crate: of a seat's trace, what holds of it, and what its laws speak of.
pub use Rattle.boot_words.specs.word_map
pub use Rattle.boot_words.specs.kernel_rules
pub use Rattle.boot_words.specs.kernel_history
pub use Rattle.flight_laws.specs.kernel_laws
pub use Rattle.flight_laws
-- Its own.
pub mod Running
pub mod RunSteps
pub mod Seen
pub mod Replies
pub mod Kernel
pub mod Turns
pub mod Calls
-- The names that are used most outside of this library.
pub use Rattle.core_kernel.specs.{Calls.HasSeen, Calls.MakesCall, Calls.EndsAt, Calls.ExtendsByOthers, Calls.Meets, Calls.Extends}
pub use Rattle.core_kernel.specs.{Kernel.CoreSeatValue, Kernel.KernelValue, Kernel.AreAllSeats, Kernel.seat_value, Kernel.AreFresh}
pub use Rattle.core_kernel.specs.{Kernel.IsBooted, Kernel.IsSeat, Replies.replies_of, Replies.AreOfOthers, Replies.EndsWith, Running.running}
pub use Rattle.core_kernel.specs.{Running.run_of, Seen.trace_of, Seen.step_by, Turns.GoesOn, Turns.AreWrapped}
