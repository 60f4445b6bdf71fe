pub mod Causes
pub mod Numerals
pub mod Arguments
pub mod Lines
-- The names that are used most outside of this library.
pub use Rattle.line_reader.specs.{Arguments.texts, Arguments.name_at, Causes.◌>>=◌, Lines.First_fault, Lines.rows_of, Lines.and_then, Lines.Row}
pub use Rattle.line_reader.specs.{Lines.lines_from, Lines.at_line, Lines.Step, Lines.whole_lines, Lines.Fails, Lines.Gives, Lines.with_word}
pub use Rattle.line_reader.specs.{Numerals.is_digits, Numerals.value_of, Numerals.all_digits}
unfoldable pub use Rattle.line_reader.specs.Arguments.{is_word, end_at, word_at, number_at, core_at}
unfoldable pub use Rattle.line_reader.specs.Numerals.{number_of}
