pub mod Steps
pub mod Trace
pub mod Seats
pub mod Positions
pub mod Rule
pub mod Hands
pub mod OpenSeats
-- The names that are used most outside of this library.
pub use Rattle.turn_rule.specs.Positions.{SpreadValue}
pub use Rattle.turn_rule.specs.Rule.{part, Begins, Kept, Stays, IsSeated, start_of}
pub use Rattle.turn_rule.specs.Seats.{SeatValue, FollowsTrace, TableValue, MakesStep, AreAllSeats, Turns, TurnsOn}
pub use Rattle.turn_rule.specs.Trace.{program_after, IsSound, AreOfOthers, called, entry, MayFollow, word_after, MayCall, IsStep}
unfoldable pub use Rattle.turn_rule.specs.Positions.{position}
