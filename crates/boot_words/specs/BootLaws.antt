-- What is promised of the words of the machine at the start.
use Rattle.kernel_history.specs.{Setting, IsSetting, start, boot_word, Represent, end_of, RepresentCounts}

-- The boot words, with the ends that the cores have at the start, represent the start state, and so do their counts.
pub record BootRepresents (setup : Setting) : Type 0 where
  pub parts : Represent (boot_word setup) (λ c. end_of (start setup) c) (start setup)
  pub counts : RepresentCounts (boot_word setup) (start setup)

-- The boot words of every setting represent its start state.
abbrev pub BootRepresentsStart : Type 0
BootRepresentsStart = (setup : Setting) → IsSetting setup → BootRepresents setup
