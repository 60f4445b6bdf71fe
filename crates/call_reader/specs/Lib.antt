-- What the crates above name through this one.
pub use Rattle.spk_nums
-- Its own.
pub mod FirstWords
pub mod CallLines
pub mod Sites
pub mod Within
pub mod OneLine
pub mod Versions
-- The names that are used most outside of this library.
pub use Rattle.call_reader.specs.{FirstWords.call_word, Versions.most_calls, CallLines.Form, CallLines.form_of, CallLines.read_form}
pub use Rattle.call_reader.specs.{Within.MaySay, Within.IsVerbIn, Within.IsCallWithin}
unfoldable pub use Rattle.call_reader.specs.CallLines.{call_line, frame_kind_at, frame_kind_of, object_at, object_of}
unfoldable pub use Rattle.call_reader.specs.FirstWords.{first_word, find_verb}
