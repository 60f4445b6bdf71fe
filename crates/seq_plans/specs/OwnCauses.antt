-- Causes of refusal as data, as those of the definitions.
use Rattle.std.specs.Prelude.{if◌then◌else◌, ◌∷◌}
use Rattle.seq_state.specs.{ℕ, ltb as nat_lt, List, [], Option, Some, None, Call, Retype, Nothing, State, IsRefusal}
use Rattle.seq_state.specs.{only, to_use, outside, retype_rule, rule_of, Cause, When, Rule, Name, Does, thing_of, HasIndex, Kind, FrameKind}
use Rattle.seq_state.specs.kernel_rules.specs.{Untype, WaitedFor, Unflushed}
use Rattle.seq_plans.specs.{declared.causes.Cause.Cause as Asked, declared.causes.Causes.Causes}

-- A cause.
abbrev pub cause_of : Asked → Cause
cause_of (Asked.When stands refusal) = When stands refusal
cause_of (Asked.WaitedFor thing) = WaitedFor (thing_of thing)
cause_of (Asked.Unflushed thing) = Unflushed (thing_of thing)

-- A list with a cause before it, if there is one.
abbrev pub with_cause : Option Asked → List Cause → List Cause
with_cause None causes = causes
with_cause (Some cause) causes = cause_of cause ∷ causes

-- Causes in their order.
abbrev pub causes_in : Causes → List Cause
causes_in x =
    with_cause x.first (with_cause x.second (with_cause x.third (with_cause x.fourth (with_cause x.fifth (with_cause x.sixth [])))))

-- A cause has a refusal as its reply; its thing, if it is a place, is one in a node.
abbrev pub IsFitCause : Cause → Type 0
IsFitCause (When condition r) = IsRefusal r
IsFitCause (WaitedFor x) = HasIndex x
IsFitCause (Unflushed x) = HasIndex x

abbrev pub AreFitCauses : List Cause → Type 0
AreFitCauses [] = Unit {0}
AreFitCauses (cause ∷ causes) = IsFitCause cause × AreFitCauses causes

-- A retype to untyped of a frame that the machine does not have is judged by its range alone.
abbrev pub retype_beyond : ℕ → ℕ → Rule
retype_beyond r f = Name r (to_use (only Kind.Range)) λ range. Does (outside range f ∷ []) Nothing (Untype f ∷ [])

-- The rule of a call of core c as it is judged.
abbrev pub judged_rule : State → ℕ → Call → Rule
judged_rule s c (Retype r f FrameKind.Untyped) =
    if nat_lt f s.limits.frames then retype_rule s r f FrameKind.Untyped else retype_beyond r f
judged_rule s c call = rule_of s c call
