pub mod Looks
pub mod Events
pub mod Running
pub mod Seen
pub mod Calls
pub mod Tables
pub mod Asked
pub mod Refusals
-- The names that are used most outside of this library.
pub use Rattle.async_ends.specs.{Asked.AreStepsOfAll, Asked.AreStepsOf, Calls.Comes, Calls.call_of, Events.Event, Events.sent_to}
pub use Rattle.async_ends.specs.{Events.untaken, Events.taken_at, Events.receiving, Events.IsLegal, Events.Took, Events.events_by}
pub use Rattle.async_ends.specs.{Events.Loaded, Events.Missed, Events.event, Events.sends_in, Events.Added, Events.AreOfOthers}
pub use Rattle.async_ends.specs.{Events.ExtendsByOthers, Events.MayDo, Events.count_by, Events.receive_at, Looks.reached, Looks.look}
pub use Rattle.async_ends.specs.{Running.most_calls, Running.EndCore, Running.end_steps, Seen.history_of, Seen.event_in, Tables.EndSeatValue}
pub use Rattle.async_ends.specs.{Tables.seat_value, Tables.EndTableValue, Tables.IsStart, Tables.AreAllSeats, Tables.AreWrapped, Tables.IsSeat}
