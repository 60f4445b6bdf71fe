pub mod Bytes
pub mod Words
pub mod Scanning
-- The names that are used most outside of this library.
pub use Rattle.script_tokens.specs.Bytes.{is_feed, is_allowed, is_word_byte, is_hash}
pub use Rattle.script_tokens.specs.Words.{words_of, ending_of, line_count, Word, first_fault, spans, word_at, before_fault, ending_from, views, Span, joined, spans_of}
