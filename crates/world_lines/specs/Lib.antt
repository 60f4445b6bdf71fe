-- What the crates above name through this one.
pub use Rattle.world_parts
-- Its own.
pub mod Lines
pub mod Placing
pub mod Table
pub mod Telling
-- The names that are used most outside of this library.
pub use Rattle.world_lines.specs.{Lines.is_before, Lines.works_there, Lines.worlds_text, Telling.TellsWorlds}
unfoldable pub use Rattle.world_lines.specs.Lines.{any_below, number_at, ranges_in}
