pub mod Comp
pub mod Core
pub mod Count
pub mod Flush
pub mod Frame
pub mod FrameKinds
pub mod Live
pub mod Residue
-- The names that are used most outside of this library.
pub use Rattle.frame_words.specs.{Comp.CompFits, Count.CountFits, Count.NumberFits, Frame.FrameFits, Live.LiveFits, Residue.residue}
pub use Rattle.frame_words.specs.{Residue.wrapped}
unfoldable pub use Rattle.frame_words.specs.{Comp.comp_of_word, Comp.word_of_comp, Core.core_of_word, Core.word_of_core, Count.count_of_word}
unfoldable pub use Rattle.frame_words.specs.{Count.word_of_count, Flush.flush_of_word, Flush.word_of_flush, Frame.frame_of_word, Frame.word_of_frame}
unfoldable pub use Rattle.frame_words.specs.{Live.live_of_word, Live.word_of_live}
