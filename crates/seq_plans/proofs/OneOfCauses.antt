-- One of several causes may stand.
use Rattle.seq_state.proofs.{ℕ, Bool, true, false, ◌||◌, inl, inr, List, [], Option, Some, None, Reply, State, Cause, OneMay}
use Rattle.seq_plans.specs.{AreFitCauses, Decides, declared.causes.Cause.Cause as Asked, OwnCauses.with_cause}

-- A cause, if there is one, may stand, or one of those after it.
pub next_decides : (s : State) (c : ℕ) (r : Reply) (x : Option Asked) (causes : List Cause) (a b : Bool)
    → Decides a (OneMay s c (with_cause x []) r) → Decides b (OneMay s c causes r)
    → Decides (a || b) (OneMay s c (with_cause x causes) r)
next_decides s c r None causes true b p q = absurd p
next_decides s c r None causes false b p q = q
next_decides s c r (Some cause) causes true b p q = elim p [ inl this ↦ inl this | inr none ↦ absurd none ]
next_decides s c r (Some cause) causes false true p q = inr q
next_decides s c r (Some cause) causes false false p q = λ h. elim h [ inl this ↦ p (inl this) | inr other ↦ q other ]

-- Each of several causes is fit.
pub first_fits : (x : Option Asked) (causes : List Cause) → AreFitCauses (with_cause x causes) → AreFitCauses (with_cause x [])
first_fits None causes fit = tt
first_fits (Some cause) causes fit = (fit.0, tt)

pub rest_fit : (x : Option Asked) (causes : List Cause) → AreFitCauses (with_cause x causes) → AreFitCauses causes
rest_fit None causes fit = fit
rest_fit (Some cause) causes fit = fit.1
