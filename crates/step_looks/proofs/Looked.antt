-- Where a step of a look-up, or of the question whether a component lives, takes a call does not depend on the stage that it leaves.
use Rattle.step_starts.specs.act_states.specs.{◌≡◌, refl, StageEnd, Look, pushed, Next, NextName, NextFree, NextHeld, NextOwn, NextNothing}
use Rattle.step_starts.specs.act_states.specs.{next_of, refusal_of, refuse, met_name, met_free, met_held, Alive, plan_for}
use Rattle.step_starts.specs.call_stages.specs.{told, call_after, found_more, next_by, named_one, took_found, took_end, took_alive}
use Rattle.step_starts.specs.stage_look.specs.declared.look.Found.{Found}
use Rattle.step_starts.specs.act_states.specs.{declared.own.Own.Own, declared.lookups.Met.Met, declared.lookups.Met.TheVariants.Finds}
use Rattle.step_starts.specs.act_states.specs.{declared.lookups.Met.TheVariants.Refused, declared.work.Work.TheVariants.Lookup}
use Rattle.step_starts.specs.act_states.specs.{declared.refusals.Refusal.Refusal}
use Rattle.step_starts.specs.call_stages.specs.{declared.stages.ActiveCall.ActiveCall, declared.stages.Stage.Stage}
use Rattle.step_starts.specs.call_stages.specs.{declared.stages.Stage.TheVariants.Living, declared.stages.Stage.TheVariants.Undecided}
use Rattle.step_starts.specs.step_lands.specs.Standing.{looked_to, asked_to}
use Rattle.step_starts.specs.step_lands.proofs.Staged.{told_from, call_from, after_from}

told_named : (own : Own) (a : ActiveCall) (s : Stage) (m : Met) → told (named_one own (record a { stage = s }) m) ≡ told (named_one own a m)
told_named own a s (Finds k) = told_from (found_more a (pushed a.found k)) s (next_by own (found_more a (pushed a.found k)))
told_named own a s (Refused r) = told_from a s (refuse r)

call_named : (own : Own) (a : ActiveCall) (s : Stage) (m : Met)
    → call_after (record a { stage = s }) (named_one own (record a { stage = s }) m) ≡ call_after a (named_one own a m)
call_named own a s (Finds k) =
    after_from (record a { stage = s }) a (found_more a (pushed a.found k)) s (next_by own (found_more a (pushed a.found k)))
call_named own a s (Refused r) = call_from a s (refuse r)

told_found : (own : Own) (a : ActiveCall) (s : Stage) (n : Next) (f : Found)
    → told (took_found own (record a { stage = s }) n f) ≡ told (took_found own a n f)
told_found own a s (NextName n wanted) f = told_named own a s (met_name wanted f.value)
told_found own a s (NextFree target) f = told_from a s (met_free own a.call a.found a.read f f.value)
told_found own a s (NextHeld target) f = told_from a s (met_held own a.call a.found f f.value)
told_found own a s (NextOwn v) f = told_from a s (refuse Refusal.Raced)
told_found own a s NextNothing f = told_from a s (refuse Refusal.Raced)

call_found : (own : Own) (a : ActiveCall) (s : Stage) (n : Next) (f : Found)
    → call_after (record a { stage = s }) (took_found own (record a { stage = s }) n f) ≡ call_after a (took_found own a n f)
call_found own a s (NextName n wanted) f = call_named own a s (met_name wanted f.value)
call_found own a s (NextFree target) f = call_from a s (met_free own a.call a.found a.read f f.value)
call_found own a s (NextHeld target) f = call_from a s (met_held own a.call a.found f f.value)
call_found own a s (NextOwn v) f = call_from a s (refuse Refusal.Raced)
call_found own a s NextNothing f = call_from a s (refuse Refusal.Raced)

pub told_looked : (own : Own) (a : ActiveCall) (look : Look) (end : StageEnd Found)
    → told (looked_to own (record a { stage = Undecided (Lookup look) }) end) ≡ told (took_end own a look end)
told_looked own a look StageEnd.Going = refl
told_looked own a look (StageEnd.Decided r) = told_from a (Undecided (Lookup look)) (refuse (refusal_of r))
told_looked own a look (StageEnd.Done f) = told_found own a (Undecided (Lookup look)) (next_of (plan_for a.call) a.found) f
told_looked own a look (StageEnd.Refuse r) = told_from a (Undecided (Lookup look)) (refuse (refusal_of r))

pub call_looked : (own : Own) (a : ActiveCall) (look : Look) (end : StageEnd Found)
    → call_after (record a { stage = Undecided (Lookup look) }) (looked_to own (record a { stage = Undecided (Lookup look) }) end)
    ≡ call_after a (took_end own a look end)
call_looked own a look StageEnd.Going = refl
call_looked own a look (StageEnd.Decided r) = call_from a (Undecided (Lookup look)) (refuse (refusal_of r))
call_looked own a look (StageEnd.Done f) = call_found own a (Undecided (Lookup look)) (next_of (plan_for a.call) a.found) f
call_looked own a look (StageEnd.Refuse r) = call_from a (Undecided (Lookup look)) (refuse (refusal_of r))

pub told_asked : (own : Own) (a : ActiveCall) (alive : Alive) (end : StageEnd (Unit {0}))
    → told (asked_to own (record a { stage = Living alive }) end) ≡ told (took_alive own a alive end)
told_asked own a alive StageEnd.Going = refl
told_asked own a alive (StageEnd.Decided r) = told_from a (Living alive) (refuse (refusal_of r))
told_asked own a alive (StageEnd.Done x) = told_from a (Living alive) (next_by own a)
told_asked own a alive (StageEnd.Refuse r) = told_from a (Living alive) (refuse (refusal_of r))

pub call_asked : (own : Own) (a : ActiveCall) (alive : Alive) (end : StageEnd (Unit {0}))
    → call_after (record a { stage = Living alive }) (asked_to own (record a { stage = Living alive }) end)
    ≡ call_after a (took_alive own a alive end)
call_asked own a alive StageEnd.Going = refl
call_asked own a alive (StageEnd.Decided r) = call_from a (Living alive) (refuse (refusal_of r))
call_asked own a alive (StageEnd.Done x) = call_from a (Living alive) (next_by own a)
call_asked own a alive (StageEnd.Refuse r) = call_from a (Living alive) (refuse (refusal_of r))
