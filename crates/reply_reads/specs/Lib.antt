pub mod Words
pub mod Laws
-- The names that are used most outside of this library.
pub use Rattle.reply_reads.specs.{Laws.IsReplyWithin, Words.reply_words}
pub use Rattle.kernel_history.specs.spk_nums.specs.Texts.{spaced}
