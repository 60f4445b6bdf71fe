-- What the crates above name through this one.
pub use Rattle.spk_nums
pub use Rattle.script_tokens
pub use Rattle.line_reader
pub use Rattle.call_reader
-- Its own.
pub mod Heads
pub mod Orders
pub mod Readings
-- The names that are used most outside of this library.
pub use Rattle.script_reader.specs.Heads.{is_whole, granted, may_stand, no_head}
pub use Rattle.script_reader.specs.Orders.{items_of}
pub use Rattle.script_reader.specs.Readings.{Meaning, lists_of, Draft_of, BelowCores, meaning_at, meaning_of, no_draft, AtMost, script_view, draft_from, calls_of}
pub use Rattle.script_reader.specs.Readings.{draft_view, with_call, IsDraft, is_order, IsScript, setting_of, with_line}
unfoldable pub use Rattle.script_reader.specs.{Heads.line_of, Heads.line_by, Heads.core_line, Heads.order_line, Orders.item_of, Readings.script_of}
unfoldable pub use Rattle.script_reader.specs.{Readings.draft_behind, Readings.behind_line}
