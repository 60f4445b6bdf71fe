-- The line `ends`, and the lines after it.
use Rattle.std.specs.Prelude.{ℕ, List, Bool, false, Option, Some, None, Result, Ok, slice_get, codes, if◌then◌else◌}
use Rattle.line_reader.specs.{◌>>=◌, name_at, core_at}
use Rattle.async_ends.specs.{declared.endpoint.EndOp.EndOp, declared.endpoint.EndOp.TheVariants.Send}
use Rattle.async_ends.specs.{declared.endpoint.EndOp.TheVariants.Recv, declared.asks.EndAsk.EndAsk}
use Rattle.line_reader.specs.{declared.cause.Cause.Cause, Arguments.is_word, Arguments.end_at}
use Rattle.ends_reader.specs.declared.part.PartWord.{PartWord}
use Rattle.ends_reader.specs.declared.part.PartWord.TheVariants.{Core, Ask}

abbrev pub is_ends : Option (List ℕ) → Bool
is_ends None = false
is_ends (Some word) = is_word word (codes "ends")

-- the line's first word is `ends`
abbrev pub begins_ends : List (List ℕ) → Bool
begins_ends words = is_ends (slice_get words 0)

-- the known first words after the line `ends`; another is S2
unfoldable pub part_word : List ℕ → Option PartWord
part_word word =
    if is_word word (codes "core") then Some Core
    else (if is_word word (codes "send") then Some (Ask Send)
    else (if is_word word (codes "recv") then Some (Ask Recv)
    else None))

-- `core c`: the core, below the number of cores
unfoldable pub core_in : List (List ℕ) → ℕ → Result ℕ Cause
core_in words cores = do
  c ← core_at words 1 cores
  done ← end_at words 2
  Ok c

-- `send A` or `recv A`: what is asked
unfoldable pub ask_in : List (List ℕ) → EndOp → Result EndAsk Cause
ask_in words op = do
  a ← name_at words 1
  done ← end_at words 2
  Ok (record { op = op; number = a })
