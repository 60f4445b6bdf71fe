-- Steps by a step function of an act: its operation, and what it takes from the word that it finds.
use Rattle.std.specs.Prelude.{◌∷◌}
use Rattle.kernel_history.specs.{ℕ, Option, Some, None, whole_copy, Capability, cap_of, Reply, Move, word_of, there, enters, loads}
use Rattle.act_states.specs.declared.work.WorkStep.TheVariants.{Goes, Acquires, Refuses, Answers, Changes}
use Rattle.{kernel_history.specs.Kind, act_states.specs.Ok, act_states.specs.reply_of, kernel_history.specs.Trace.Trace}
use Rattle.{act_states.specs.declared.fills.Fill.Fill, act_states.specs.declared.work.WorkStep.WorkStep}

-- The reply that a step of an act decides, if it does.
abbrev pub decided_in : WorkStep → Option Reply
decided_in (Goes work) = None
decided_in (Acquires count work) = None
decided_in (Refuses r tail) = Some (reply_of r)
decided_in (Answers v drawn tail) = Some (Ok v)
decided_in (Changes r change drawn tail) = Some r

-- One more step of core c, which makes an operation and takes this from what it finds.
abbrev pub acts : ℕ → Move → (ℕ → WorkStep) → Trace → Trace
acts c m took t = record {
  core = c;
  move = m;
  found = there t (word_of m);
  enters = None;
  decides = decided_in (took (there t (word_of m)));
  returns = None;
} ∷ t

-- The range, which place 0 of the leaf holds.
abbrev pub range : Capability
range = cap_of Kind.Range 8 24

-- Place 20 of the leaf was found free, and is to hold the range.
abbrev pub fill : Fill
fill = record { node = 1; entry = 20; word = 0; cap = range }

-- Core c has looked up both names and the target of a copy of the range to place 20.
abbrev pub copying : ℕ → Trace → Trace
copying c t = loads c 1 20 (loads c 1 1 (loads c 1 0 (loads c 0 0 (enters c (whole_copy 0 1 20) t))))
