-- What the crates above name through this one.
pub use Rattle.history_check
pub use Rattle.history_reader
-- Its own.
pub mod Texts
pub mod Checked
