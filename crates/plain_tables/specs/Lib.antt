-- What the crates above name through this one.
pub use Rattle.table_lines.specs.kernel_history
pub use Rattle.table_lines
-- Its own.
pub mod Within
