-- When a step of a call says that it waits for a core.
use Rattle.call_stages.specs.act_states.specs as low
use Rattle.std.specs.Prelude.{◌≡◌}
use low.{ℕ, Option, Some, None, Word, CoreAt, word_of, Reply, StageEnd, PairAt}
use Rattle.call_stages.specs.{Took, GoesOn, Decides, Returns, Changes, took_at, stage_move}
use low.{declared.refusals.Refusal.Refusal, declared.own.Own.Own, declared.work.Act.Act as ActType, declared.work.Work.Work}
use low.{declared.work.Work.TheVariants.Act, declared.work.WorkStep.WorkStep, declared.work.WorkStep.TheVariants.Goes}
use low.{declared.work.WorkStep.TheVariants.Acquires, declared.work.WorkStep.TheVariants.Refuses as refuses_to}
use low.{declared.work.WorkStep.TheVariants.Answers, declared.work.WorkStep.TheVariants.Changes as work_changes}
use Rattle.call_stages.specs.{declared.stages.Stage.Stage, declared.stages.Stage.TheVariants.Undecided}
use Rattle.call_stages.specs.{declared.stages.Stage.TheVariants.Decided, declared.stages.ActiveCall.ActiveCall}

-- What a reply says where it says that the call waits: it is decided at the load of the core's word.
abbrev pub RefusesAt : Word → Refusal → Type 0
RefusesAt w (Refusal.Quiescing d) = w ≡ CoreAt d
RefusesAt w _ = Unit {0}

abbrev pub RepliesAt : Word → Reply → Type 0
RepliesAt w (Reply.Quiescing d) = w ≡ CoreAt d
RepliesAt w _ = Unit {0}

abbrev pub StepAt : Word → WorkStep → Type 0
StepAt w (Goes work) = Unit {0}
StepAt w (Acquires count work) = Unit {0}
StepAt w (refuses_to r tail) = RefusesAt w r
StepAt w (Answers v drawn tail) = Unit {0}
StepAt w (work_changes r change drawn tail) = RepliesAt w r

abbrev pub EndAt : {X : Type 0} → Word → StageEnd X → Type 0
EndAt w StageEnd.Going = Unit {0}
EndAt w (StageEnd.Decided r) = RepliesAt w r
EndAt w (StageEnd.Done x) = Unit {0}
EndAt w (StageEnd.Refuse r) = RepliesAt w r

abbrev pub MayAt : Word → Option Reply → Type 0
MayAt w None = Unit {0}
MayAt w (Some r) = RepliesAt w r

abbrev pub TookAt : Word → Took → Type 0
TookAt w (GoesOn a) = Unit {0}
TookAt w (Decides r a) = RepliesAt w r
TookAt w (Returns r x) = Unit {0}
TookAt w (Changes r change a) = RepliesAt w r

-- A second load of head B decides no wait.
abbrev pub IsAgain : PairAt → Type 0
IsAgain (PairAt.AgainB (Reply.Quiescing d)) = ⊥
IsAgain _ = Unit {0}

abbrev pub AgainIn : ActType → Type 0
AgainIn (ActType.Share p) = IsAgain p.at
AgainIn _ = Unit {0}

abbrev pub AgainOf : Work → Type 0
AgainOf (Act act) = AgainIn act
AgainOf _ = Unit {0}

abbrev pub AgainAt : Stage → Type 0
AgainAt (Undecided work) = AgainOf work
AgainAt _ = Unit {0}

-- A step that decides `quiescing d` is on the word of core d, whatever it finds; a second load of a head decides no such reply.
abbrev pub WaitsAtCores : Type 0
WaitsAtCores = (own : Own) (a : ActiveCall) (stage : Stage) (found : ℕ) → AgainAt stage
    → TookAt (word_of (stage_move own a.counts stage)) (took_at own a stage found)
