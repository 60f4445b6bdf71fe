-- What the crates above name through this one.
pub use Rattle.kernel_history.specs.spk_nums
pub use Rattle.kernel_history.specs.entry_words
pub use Rattle.kernel_history.specs.frame_words
pub use Rattle.kernel_history.specs.tcap_words
pub use Rattle.kernel_history.specs.word_map
pub use Rattle.kernel_history.specs.kernel_rules
pub use Rattle.kernel_history
-- Its own.
pub mod BootLaws
pub mod Filling
-- The names that are used most outside of this library.
pub use Rattle.boot_words.specs.Filling.{Fills, IsRight, IsFrameRight}
