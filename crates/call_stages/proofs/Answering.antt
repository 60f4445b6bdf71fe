-- What a step of the work of a call decides.
use Rattle.act_states.specs.{ℕ, ◌<◌, ◌^◌, Bool, true, false, Option, Some, None, Reply}
use Rattle.act_states.specs.declared.work.WorkStep.TheVariants.{Goes, Acquires, Refuses as refuses_to, Answers, Changes as work_changes}
use Rattle.{act_states.specs.kernel_rules.specs.Laws.IsRefusal, act_states.specs.declared.work.WorkStep.WorkStep}

-- A step of the work that carries nothing out.
abbrev pub NoAnswer : WorkStep → Type 0
NoAnswer (Goes work) = Unit {0}
NoAnswer (Acquires count work) = Unit {0}
NoAnswer (refuses_to r tail) = Unit {0}
NoAnswer (Answers v drawn tail) = ⊥
NoAnswer (work_changes r change drawn tail) = IsRefusal r

-- A step with which the work is over.
abbrev pub IsOver : WorkStep → Type 0
IsOver (Goes work) = ⊥
IsOver (Acquires count work) = ⊥
IsOver (refuses_to r tail) = Unit {0}
IsOver (Answers v drawn tail) = Unit {0}
IsOver (work_changes r change drawn tail) = Unit {0}

-- A stamp that is within its range, if there is one; a step that carries the call out has drawn such a stamp, or none.
abbrev pub IsSmall : Option ℕ → Type 0
IsSmall None = Unit {0}
IsSmall (Some n) = n < 2 ^ 43

abbrev pub IsDrawn : WorkStep → Type 0
IsDrawn (Goes work) = Unit {0}
IsDrawn (Acquires count work) = Unit {0}
IsDrawn (refuses_to r tail) = Unit {0}
IsDrawn (Answers v drawn tail) = IsSmall drawn
IsDrawn (work_changes (Reply.Ok v) change drawn tail) = IsSmall drawn
IsDrawn (work_changes r change drawn tail) = Unit {0}

-- A step that carries nothing out has drawn none.
pub none_drawn : (step : WorkStep) → NoAnswer step → IsDrawn step
none_drawn (Answers v drawn tail) none = absurd none
none_drawn (work_changes (Reply.Ok v) change drawn tail) none = absurd none
none_drawn step none = tt

-- A step that is not ready carries nothing out, and one that is decides.
abbrev pub EndsBy : Bool → WorkStep → Type 0
EndsBy false step = NoAnswer step
EndsBy true step = IsOver step × IsDrawn step
