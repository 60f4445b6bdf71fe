-- What the crates above name through this one.
pub use Rattle.lone_kernel
-- Its own.
pub mod Lists
pub mod Out
