-- What the crates above name through this one.
pub use Rattle.kernel_history.specs.spk_nums
pub use Rattle.kernel_history
pub use Rattle.marked_history
-- Its own.
pub mod Marks
pub mod Laws
-- The names that are used most outside of this library.
pub use Rattle.marked_laws.specs.Marks.{marks_of, with_decide, with_enter, with_return}
