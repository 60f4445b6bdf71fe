pub mod Shown
-- The names that are used most outside of this library.
pub use Rattle.table_report.specs.Shown.{words_of, core_shown_at, frame_at}
unfoldable pub use Rattle.table_report.specs.Shown.{qualities_shown, stack_shown}
