-- The calls that charge ticks, and what lies in their footprints.
use Rattle.step_ways.proofs.{◌≡◌, ℕ, ◌||◌, ◌++◌, ◌==◌, Bool, true, false, [], ◌∷◌, refl, sym, ◌∙◌, ap, subst, eq-eqb, Call, Frame, Kernel}
use Rattle.step_ways.proofs.{Tcap, TcapFields, State, thread_of, comp_of, is_one_of, frames_own, footprint_frames, HasRacedHead, Charge}
use Rattle.{step_ways.proofs.ChargesBy, plan_ways.specs.spk_nums.specs.declared.calls.Call.TheVariants.Tick}
use Rattle.{plan_ways.proofs.InFootprint.one_left, step_ways.specs.core_invariant.specs.Acting.IsCharge}

-- The call that charges ticks.
pub record IsTick (s : State) (c : ℕ) (call : Call) (charge_at : Charge) : Type 0 where
  pub ticks : ℕ
  pub call_is : call ≡ Tick ticks
  pub charged : IsCharge s c ticks charge_at

pub tick_of : (s : State) (c : ℕ) (call : Call) (charge_at : Charge) → ChargesBy s c call charge_at → IsTick s c call charge_at
tick_of s c (Tick n) charge_at is = record { ticks = n; call_is = refl; charged = is }
tick_of s c call charge_at is = absurd is

-- The temporal capability of a core is in the footprint of each of its calls.
pub own_footprint : (s : State) (c : ℕ) (call : Call) → is_one_of (s.core c).tcap (footprint_frames s c call) ≡ true
own_footprint s c call = one_left (s.core c).tcap (frames_own s c) _
    (ap (λ b. ((s.core c).thread == (s.core c).tcap) || (b || is_one_of (s.core c).tcap ((thread_of s c).stack ++
    ((comp_of s c).table ∷ (comp_of s c).pages ∷ [])))) (eq-eqb (s.core c).tcap (s.core c).tcap refl)
    ∙ last ((s.core c).thread == (s.core c).tcap))
  where
    last : (b : Bool) → (b || true) ≡ true
    last true = refl
    last false = refl

-- A frame with a temporal capability has a head for which calls race, and is no node.
pub raced_head : (x : Frame) (q : TcapFields) → x ≡ Kernel (Tcap q) → HasRacedHead x
raced_head x q is = subst HasRacedHead (sym is) tt
