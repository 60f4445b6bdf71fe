pub mod Replies
pub mod Lines
pub mod Inputs
-- The names that are used most outside of this library.
pub use Rattle.history_reader.specs.Inputs.{History, History_draft, lines_from, no_history}
unfoldable pub use Rattle.history_reader.specs.{Inputs.history_of, Inputs.line_behind, Lines.line_word, Replies.reply_of}
