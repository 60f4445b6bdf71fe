-- What the crates above name through this one.
pub use Rattle.check_run.specs.history_reader
pub use Rattle.open_calls
pub use Rattle.marked_history
pub use Rattle.check_run
-- Its own.
pub mod Texts
pub mod Forms
pub mod Replies
pub mod Options
pub mod Advice
pub mod Told
-- The names that are used most outside of this library.
pub use Rattle.history_options.specs.Replies.{below_replies, core_replies, replies_of}
