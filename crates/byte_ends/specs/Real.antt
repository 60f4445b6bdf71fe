-- Sources and sinks over std's readers and writers, as contracts see them.
use Rattle.std.specs.Prelude.{ℕ, List, Option}

-- A source over a reader: the bytes that the reader has left, where it tells them, and the faults so far.
pub record Reading : Type 0 where
  pub left : Option (List ℕ)
  pub faults : ℕ

-- A sink over a writer: the bytes that the writer holds, where it tells them, and the faults so far.
pub record Writing : Type 0 where
  pub held : Option (List ℕ)
  pub faults : ℕ
