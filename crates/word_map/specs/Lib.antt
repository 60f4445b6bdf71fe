-- What the crates above name through this one.
pub use Rattle.spk_nums
-- Its own.
pub mod Word
pub mod Places
pub mod Moves
-- The names that are used most outside of this library.
pub use Rattle.word_map.specs.Moves.{word_of, Move, LoadOf, left_of, StoreOf, CompareOf, AddOf, told_of, op_of}
pub use Rattle.word_map.specs.Places.{Shape, IsIn, IsShape, HasPlaces}
pub use Rattle.word_map.specs.Word.{EntryAt, CountAt, FrameAt, LiveAt, ClockAt, CoreAt, FlushAt, same_word}
unfoldable pub use Rattle.word_map.specs.Places.{place_of, size_of}
