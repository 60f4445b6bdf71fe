-- What the crates above name through this one.
pub use Rattle.call_stages
-- Its own.
pub mod Waits
