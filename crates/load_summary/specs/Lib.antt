pub mod Summaries
pub mod Laws
-- The names that are used most outside of this library.
unfoldable pub use Rattle.load_summary.specs.Summaries.{summary_text}
