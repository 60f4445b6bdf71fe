-- The words of the table by the names that the code has for them.
use Rattle.std.specs.Prelude.{◌≡◌}
use Rattle.kernel_history.specs.{ℕ, Word, EntryAt, FrameAt, CountAt, CoreAt, FlushAt, LiveAt, ClockAt, Shape, IsIn, place_of}
use Rattle.step_views.specs.declared.names.WordName.{WordName}
use Rattle.step_views.specs.declared.names.WordName.TheVariants.{Entry, Frame, Count, Core, Flush, Live, Clock}

-- the word of this name
abbrev pub named : WordName → Word
named (Entry frame entry) = EntryAt frame entry
named (Frame frame) = FrameAt frame
named (Count frame core) = CountAt frame core
named (Core core) = CoreAt core
named (Flush core) = FlushAt core
named (Live number) = LiveAt number
named Clock = ClockAt

-- the machine has a word of this name, at this place
pub record IsNamed (s : Shape) (name : WordName) (place : ℕ) : Type 0 where
  pub is_in : IsIn s (named name)
  pub is_there : place_of s (named name) ≡ place
