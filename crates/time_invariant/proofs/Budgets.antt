-- The numbers of a core and of temporal capabilities after a legal trace.
use Rattle.step_ways.proofs.{◌≡◌, ℕ, ◌-◌, ◌*◌, ◌^◌, ◌<◌, ◌≤◌, arith, refl, sym, ap, subst, IsTrue, false≢true, Setting, IsSetting, fits}
use Rattle.step_ways.proofs.{Frame, Kernel, Tcap, TcapFields, State, events_of, IsLegal, Trace, state_after, state_is, run_of, sound_of}
use Rattle.{step_ways.proofs.limits_of, step_ways.proofs.Kind, plan_ways.specs.kernel_rules.specs.Ranges.InRanges}
use Rattle.{plan_ways.specs.kernel_rules.specs.Ranges.CoreInRange, step_ways.specs.kernel_laws.proofs.RangesLaw.ranges_hold}

-- A frame has a temporal capability.
pub record IsTcap (x : Frame) : Type 0 where
  pub fields : TcapFields
  pub is : x ≡ Kernel (Tcap fields)

pub tcap_is : (x : Frame) → IsTrue (fits Kind.Tcap x) → IsTcap x
tcap_is (Kernel (Tcap q)) fit = record { fields = q; is = refl }
tcap_is _ fit = absurd (false≢true fit)

pub ranges_of : (setup : Setting) → IsSetting setup → (t : Trace) → IsLegal setup t → InRanges (state_after setup t)
ranges_of setup setting t legal = subst InRanges (sym (state_is setup t)) (ranges_hold setup setting (events_of t) (run_of setup t legal))

-- A core of the machine has counted no more calls than a core may, has spent and owes at most 1,000,000 ticks for each, and has had back no
-- more than it has spent; and its temporal capability is one.
pub record Numbers (s : State) (c : ℕ) : Type 0 where
  pub counted : (s.core c).counted ≤ 2 ^ 40 - 1
  pub owed : (s.core c).owed ≤ 1000000 * (s.core c).counted
  pub spent : (s.core c).spent ≤ 1000000 * (s.core c).counted
  pub back : (s.core c).back ≤ (s.core c).spent
  pub tcap : IsTrue (fits Kind.Tcap (s.frame (s.core c).tcap))

pub numbers_of : (setup : Setting) → IsSetting setup → (t : Trace) → IsLegal setup t → (c : ℕ) → c < setup.cores
    → Numbers (state_after setup t) c
numbers_of setup setting t legal c here =
    let below : c < (state_after setup t).limits.cores = subst (λ (m : ℕ). c < m) (sym (ap (λ l. l.cores) (limits_of setup t))) here in
    let ranges : CoreInRange (state_after setup t).limits.calls ((state_after setup t).core c) =
    (ranges_of setup setting t legal).cores c below in
    let limit : (state_after setup t).limits.calls ≡ setup.calls = ap (λ l. l.calls) (limits_of setup t) in
    let most = setting.most_calls in
    let counted = ranges.counted in
    let charged = ranges.charged in
    record {
      counted = omega arith;
      owed = omega (arith, charged);
      spent = omega (arith, charged);
      back = ranges.back;
      tcap = ((sound_of setup setting t legal).cores c below).1;
    }
