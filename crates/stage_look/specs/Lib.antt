-- What the crates above name through this one.
pub use Rattle.word_map.specs.spk_nums
pub use Rattle.word_map
pub use Rattle.entry_words
-- Its own.
pub mod Shown
pub mod Lookup
-- The names that are used most outside of this library.
pub use Rattle.stage_look.specs.Lookup.{look_end, look_after, look_move, end_by_link, place_end, LookFits, after_link, root_end}
pub use Rattle.stage_look.specs.Shown.{shown_in, CapNames, end_of_frames, is_link, EntryNames, entry_within, held_if}
