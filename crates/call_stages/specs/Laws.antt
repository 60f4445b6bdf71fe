-- When a call is decided, and what a step of it may decide. Each is the contract of a function of this crate.
use Rattle.std.specs.Prelude.{◌≡◌}
use Rattle.act_states.specs.kernel_rules.specs.{ℕ, true, false, Option, Some, None, Reply, IsRefusal}
use Rattle.call_stages.specs.declared.stages.Stage.TheVariants.{Enter, Living, Undecided, Decided, Leave}
use Rattle.call_stages.specs.Steps.{Took, GoesOn, Decides, Returns, Changes, took, is_ready}
use Rattle.{act_states.specs.declared.own.Own.Own, call_stages.specs.declared.stages.Stage.Stage}
use Rattle.{call_stages.specs.declared.stages.ActiveCall.ActiveCall, call_stages.specs.Fits.IsActive}

-- The reply with which a call is decided, at a stage at which it is.
abbrev pub reply_at : Stage → Option Reply
reply_at Enter = None
reply_at (Living alive) = None
reply_at (Undecided work) = None
reply_at (Decided r drawn tail) = Some r
reply_at (Leave r stamp) = Some r

-- What a step leads to, where the call was decided with this reply, or was not: it goes on as it was; it is decided, and was not;
-- it returns the reply with which it was decided.
abbrev pub Turns : Option Reply → Took → Type 0
Turns o (GoesOn a) = reply_at a.stage ≡ o
Turns o (Decides r a) = (o ≡ None) × (reply_at a.stage ≡ Some r)
Turns o (Returns r stamp) = o ≡ Some r
Turns o (Changes r change a) = (o ≡ None) × (reply_at a.stage ≡ Some r)

-- A call is decided once, and returns the reply with which it was decided.
abbrev pub DecidesOnce : Type 0
DecidesOnce = (own : Own) (a : ActiveCall) (found : ℕ) → Turns (reply_at a.stage) (took own a found)

-- What a step leads to is no `ok`.
abbrev pub Refuses : Took → Type 0
Refuses (GoesOn a) = Unit {0}
Refuses (Decides r a) = IsRefusal r
Refuses (Returns r stamp) = Unit {0}
Refuses (Changes r change a) = IsRefusal r

-- A step of a call that is not ready decides a refusal, if it decides.
abbrev pub UnreadyRefuses : Type 0
UnreadyRefuses = (own : Own) (a : ActiveCall) (found : ℕ) → IsActive own a → is_ready a ≡ false → Refuses (took own a found)

-- What a step leads to is a decision.
abbrev pub IsDecision : Took → Type 0
IsDecision (GoesOn a) = ⊥
IsDecision (Decides r a) = Unit {0}
IsDecision (Returns r stamp) = ⊥
IsDecision (Changes r change a) = Unit {0}

-- A call that is ready and not decided is decided by its next step, whatever word that finds.
abbrev pub ReadyDecides : Type 0
ReadyDecides = (own : Own) (a : ActiveCall) (found : ℕ) → IsActive own a → is_ready a ≡ true → reply_at a.stage ≡ None → IsDecision
    (took own a found)
