-- A wrong removal draws its stamp before it closes the entry.
use Rattle.act_states.specs.{[], Option, Some, None, Remove, entry_of_word, Entry, Held, Closing, EntryAt, LoadOf, close_move, close_end}
use Rattle.act_states.specs.{close_after, Close, AtDraw, took_close, looked}
use Rattle.kernel_history.specs.{Look, IsLegal, two_cores, enters, loads}
use Rattle.kernel_history.specs.entry_words.specs.declared.entry.Entry.TheVariants.{Free, Quiescing}
use Rattle.wrong_steps.specs.Acts.{acts, range}
use Rattle.{kernel_history.specs.Trace.Trace, act_states.specs.declared.work.WorkStep.WorkStep}

-- Wrong: the removal of what place 0 of the leaf holds begins with its draw; the entry would be closed after it.
abbrev pub begins_at : Close
begins_at = AtDraw 1 0

-- Core 0 removes the range.
unfoldable pub drawn : Trace
drawn = acts 0 (close_move begins_at) (λ found. took_close range (close_after begins_at found) (close_end begins_at found))
    (loads 0 1 0 (loads 0 1 1 (loads 0 0 0 (enters 0 (Remove 1 0) []))))

-- What a look takes from the entry of its name.
abbrev pub took_entry : Option Entry → WorkStep
took_entry None = looked None
took_entry (Some Free) = looked None
took_entry (Some (Held k)) = looked (Some k)
took_entry (Some (Closing by)) = looked None
took_entry (Some (Quiescing stamp)) = looked None

-- Core 1 then enters a look, and finds it.
unfoldable pub looking : Trace
looking = loads 1 0 0 (enters 1 (Look 0) drawn)

unfoldable pub found_after : Trace
found_after = acts 1 (LoadOf (EntryAt 1 0)) (λ found. took_entry (entry_of_word found)) looking

pub record RemovalsDrawFirst : Type 0 where
  pub legal : IsLegal two_cores looking
  pub refused : IsLegal two_cores found_after → ⊥
