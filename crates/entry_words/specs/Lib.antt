-- What the crates above name through this one.
pub use Rattle.spk_nums
-- Its own.
pub mod Kinds
pub mod EntryWord
-- The names that are used most outside of this library.
pub use Rattle.entry_words.specs.EntryWord.{EntryFits}
unfoldable pub use Rattle.entry_words.specs.EntryWord.{entry_of_word, word_of_entry}
