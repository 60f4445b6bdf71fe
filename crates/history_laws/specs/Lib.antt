-- What the crates above name through this one.
pub use Rattle.kernel_history
pub use Rattle.state_laws
-- Its own: the laws of a history, one concern a file.
pub mod Moments
pub mod Ready
pub mod Places
pub mod Frames
pub mod Counts
pub mod Stamps
pub mod Pages
pub mod Lives
pub mod Invocations
pub mod Threads
pub mod Time
pub mod Sums
-- What each refuses.
pub mod Scenes
pub mod Refusals
-- The names that are used most outside of this library.
pub use Rattle.history_laws.specs.{Counts.Untypes, Counts.is_carried_out, Counts.CountsTell, Counts.FrozenSay, Counts.has_cleared}
pub use Rattle.history_laws.specs.{Frames.CountedFramesStay, Frames.LookedNodesStay, Frames.ReadNodesStay, Frames.UntypedFramesAreUnused}
pub use Rattle.history_laws.specs.{Invocations.EntersNoneKilled, Invocations.EntersTheLiving, Lives.KilledStop, Lives.DeadForGood}
pub use Rattle.history_laws.specs.{Moments.AtEachStep, Moments.AtEachMoment, Moments.OfEachStretch, Pages.TouchesCache, Places.ScannedCores}
pub use Rattle.history_laws.specs.{Places.PlacesFound, Ready.ReadyDecides, Ready.UnreadyRefuses, Stamps.StampsTell, Sums.FrozenSums}
pub use Rattle.history_laws.specs.{Sums.TimeSums, Threads.ThreadWordsSay, Time.state_of_decision, Time.BackIsCounted, Time.HeadsSay}
pub use Rattle.history_laws.specs.{Time.ListsSay, Time.MarkedHeadsSay, Time.OpenHeadsSay, Time.Owes, Time.TestsTell, Time.TicksAreCounted}
