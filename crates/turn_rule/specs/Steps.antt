-- How a program goes on, as plain data.
use Rattle.{std.specs.Prelude.ℕ, std.specs.Prelude.Option, spk_nums.specs.declared.steps.WordOp.WordOp}

-- of a program: its next step, what it is once it took in a word, which calls it may begin, what it is once a call is begun, how many words
-- it works on, and how many steps its call has left at most
pub record Steps (P C : Type 0) : Type 1 where
  pub next : P → Option WordOp
  pub after : P → ℕ → P
  pub fit : P → C → Type 0
  pub begun : P → C → P
  pub size : P → ℕ
  pub left : P → ℕ
