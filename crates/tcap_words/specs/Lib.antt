pub mod Head
pub mod Quality
pub mod Stack
pub mod Thread
-- The names that are used most outside of this library.
pub use Rattle.tcap_words.specs.{Head.HeadFits, Quality.QualityFits, Thread.ThreadFits, Thread.DepthFits}
unfoldable pub use Rattle.tcap_words.specs.{Head.head_of_word, Head.word_of_head, Quality.quality_of_word, Quality.word_of_quality, Stack.stack_of_word}
unfoldable pub use Rattle.tcap_words.specs.{Stack.word_of_stack, Thread.thread_of_word, Thread.word_of_thread}
