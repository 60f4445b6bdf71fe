-- A wrong removal leaves the place free at once, and not quiescing.
use Rattle.kernel_history.specs.{[], Option, Some, None, whole_copy, cap_of, Look, Remove, word_of_entry, entry_of_word, Entry, Held}
use Rattle.kernel_history.specs.{Closing, EntryAt, ClockAt, Move, StoreOf, AddOf, IsLegal, two_cores, there, range_word, enters, goes}
use Rattle.kernel_history.specs.{decides, loads, returns, done, Kind}
use Rattle.act_states.specs.{close_move, close_after, Close, AtCompare, AtDraw, AtStore, fill_move, took_fill}
use Rattle.kernel_history.specs.entry_words.specs.declared.entry.Entry.TheVariants.{Free, Quiescing}
use Rattle.{kernel_history.specs.Trace.Trace, act_states.specs.declared.fills.Fill.Fill, wrong_steps.specs.Acts.acts}

-- Wrong: the last store leaves the entry free.
abbrev pub last_move : Close → Move
last_move (AtStore node entry stamp) = StoreOf (EntryAt node entry) (word_of_entry Free)
last_move close = close_move close

-- Core 1 has entered a look at the range. Core 0 removes the range, and returns.
unfoldable pub freed : Trace
freed =
    returns 0 done (goes 0 (last_move (close_after (AtDraw 1 0) 1)) (decides 0 (AddOf ClockAt 1) done
    (goes 0 (close_move (AtCompare 1 0 range_word 0))
    (loads 0 1 0 (loads 0 1 1 (loads 0 0 0 (enters 0 (Remove 1 0) (loads 1 0 0 (enters 1 (Look 0) [])))))))))

-- It then copies the table to that place, which its call has looked up.
unfoldable pub looked_up : Trace
looked_up = loads 0 1 0 (loads 0 1 1 (loads 0 1 1 (loads 0 0 0 (enters 0 (whole_copy 1 1 0) freed))))

abbrev pub place : Fill
place = record { node = 1; entry = 0; word = 0; cap = cap_of Kind.Table 0 0 }

-- It fills the place if it has found it free.
abbrev pub fills : Option Entry → Trace → Trace
fills None t = t
fills (Some Free) t = acts 0 (fill_move place) (took_fill place) t
fills (Some (Held k)) t = t
fills (Some (Closing by)) t = t
fills (Some (Quiescing stamp)) t = t

-- Core 1 may still use what stood there.
unfoldable pub filled_at_once : Trace
filled_at_once = fills (entry_of_word (there looked_up (EntryAt 1 0))) looked_up

pub record RemovalsFree : Type 0 where
  pub legal : IsLegal two_cores looked_up
  pub refused : IsLegal two_cores filled_at_once → ⊥
