-- What the crates above name through this one.
pub use Rattle.boot_words
pub use Rattle.boot_words.specs.spk_nums
pub use Rattle.boot_words.specs.entry_words
pub use Rattle.boot_words.specs.frame_words
pub use Rattle.boot_words.specs.tcap_words
pub use Rattle.boot_words.specs.word_map
pub use Rattle.boot_words.specs.kernel_rules
pub use Rattle.found_stays.specs.kernel_invariant
pub use Rattle.found_stays
pub use Rattle.boot_words.specs.kernel_history
