-- What the crates above name through this one.
pub use Rattle.trace_run
pub use Rattle.draw_run
pub use Rattle.origins_run
pub use Rattle.one_core
pub use Rattle.whole_ends
pub use Rattle.explain_run.specs.check_run
pub use Rattle.explain_run
pub use Rattle.ends_run
-- Its own.
pub mod Orders
pub mod Written
pub mod Ends
pub mod Worlds
pub mod Script
pub mod Summary
pub mod Top
pub mod Explains
-- The names that are used most outside of this library.
pub use Rattle.speck_run.specs.{Orders.GoesByItems, Orders.RunsCoresOut, Written.lines_of, Written.core_lines}
