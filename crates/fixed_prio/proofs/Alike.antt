-- What the plain kernel reads is what the definitions read, in every state that it has reached.
use Rattle.plain_kernel.specs.kernel_laws.proofs.{◌≡◌, ◌≢◌, ℕ, ◌+◌, ◌<◌, ◌≤◌, ◌==◌, Bool, true, false, refl, sym, ◌∙◌, ap, subst, arith}
use Rattle.plain_kernel.specs.kernel_laws.proofs.{if◌then◌else◌, IsTrue, List, [], ◌∷◌, Option, Some, None, false≢true, Capability, Setting}
use Rattle.plain_kernel.specs.kernel_laws.proofs.{IsSetting, Kind, Flush, CompFields, Frame, Kernel, Comp, Limits, State, comp_in, tcap_in}
use Rattle.plain_kernel.specs.kernel_laws.proofs.{comp_of, Slot, Under, root_at, only, usable, reached, own, entered, tcap_at, Event}
use Rattle.plain_kernel.specs.kernel_laws.proofs.{Enters, after, IsRun, fits, IsGood, IsObjectGood, opened, limits_stay, runs_sound}
use Rattle.sched_rules.specs.{reach, time_in, time_of, is_due, ready, chosen}
use Rattle.plain_kernel.specs.same_changes.proofs.{Twins, RootGood, comp_same, reached_same}
use Rattle.plain_kernel.specs.seq_state.specs.{option_and_then, state_of, Represents}
use Rattle.plain_kernel.specs.same_changes.proofs.Reaching.{frame_same, here, here_fit, table_node, slot_good, usable_same}
use Rattle.sched_rules.specs.{declared.tasks.Rule.Rule, declared.tasks.Job.Job, Schedule.lesser}
use Rattle.{plain_kernel.specs.kernel_invariant.proofs.Facts.usable_good, plain_kernel.specs.kernel_laws.proofs.RangesLaw.ranges_hold}
use Rattle.{plain_kernel.specs.seq_state.specs.Maps.Maps, plain_kernel.specs.Step.IsReached, plain_kernel.proofs.Stepping.entered_same}

-- The kernel has as many cores as the setting.
pub cores_of : (setting : Setting) (k : Maps) (s : State) → IsReached setting k s → (state_of k).limits.cores ≡ setting.cores
cores_of setting k s r =
    ap (λ (l : Limits). l.cores) r.represents.limits ∙ ap (λ (x : State). x.limits.cores) (sym r.state)
    ∙ ap (λ (l : Limits). l.cores) (limits_stay setting r.events)

comp_table : (s : State) (x : Frame) → IsTrue (fits Kind.Comp x) → IsObjectGood s x → IsTrue (fits Kind.Table (s.frame (comp_in x).table))
comp_table s (Kernel (Comp k)) fit good = good.0
comp_table s _ fit good = absurd (false≢true fit)

is_tcap : (k : Kind) → only Kind.Tcap k ≡ true → k ≡ Kind.Tcap
is_tcap Kind.Tcap e = refl
is_tcap Kind.Range e = absurd (false≢true e)
is_tcap _ e = absurd (false≢true e)

-- In two states that are one for all that the machine has, one of them reached, with core 0 in an open call.
module _ (t s : State) (o : ℕ → Bool) (w : Twins t s o 0) where
  good : (n : ℕ) → RootGood s (own s 0 n)
  good n = λ found. table_node (s.frame (comp_of s 0).table)
      (comp_table s (s.frame (here s 0)) (here_fit w) (w.sound.objects (here s 0)))

  own_alike : (n : ℕ) → own t 0 n ≡ own s 0 n
  own_alike n = ap (λ (k : CompFields). Under (root_at k.table) n) (comp_same w)

  pub reach_alike : (n : ℕ) → reach t 0 n ≡ reach s 0 n
  unfolding reach
  reach_alike n = ap (option_and_then (usable t 0)) (ap (reached t 0) (own_alike n) ∙ reached_same w (own s 0 n) (good n))
      ∙ by_slot (reached s 0 (own s 0 n)) refl
    where
      by_slot : (at : Option Slot) → reached s 0 (own s 0 n) ≡ at → option_and_then (usable t 0) at ≡ option_and_then (usable s 0) at
      by_slot None is = refl
      by_slot (Some at) is = usable_same w at (slot_good w (own s 0 n) at (good n) is)

  reach_good : (n : ℕ) (k : Capability) → reach s 0 n ≡ Some k → IsGood s k
  unfolding reach
  reach_good n k e = by_slot (reached s 0 (own s 0 n)) refl e
    where
      by_slot : (at : Option Slot) → reached s 0 (own s 0 n) ≡ at → option_and_then (usable s 0) at ≡ Some k → IsGood s k
      by_slot None is e = absurd (cc)
      by_slot (Some at) is e = usable_good s o 0 at k w.sound w.is_open e

  time_alike : (sched n : ℕ) → time_of t sched (reach t 0 n) ≡ time_of s sched (reach s 0 n)
  time_alike sched n = ap (time_of t sched) (reach_alike n) ∙ by_cap (reach s 0 n) refl
    where
      by_kind : (k : Capability) → reach s 0 n ≡ Some k → (b : Bool) → only Kind.Tcap k.kind ≡ b
          → (if b then time_in k.frame (tcap_at t k.frame) sched else None)
          ≡ (if b then time_in k.frame (tcap_at s k.frame) sched else None)
      by_kind k is false off = refl
      by_kind k is true on =
          let fit : IsTrue (fits Kind.Tcap (s.frame k.frame)) =
          subst (λ j. IsTrue (fits j (s.frame k.frame))) (is_tcap k.kind on) (reach_good n k is).fit in
          ap (λ x. time_in k.frame (tcap_in x) sched) (frame_same w Kind.Tcap k.frame refl fit)

      by_cap : (c : Option Capability) → reach s 0 n ≡ c → time_of t sched c ≡ time_of s sched c
      by_cap None is = refl
      by_cap (Some k) is = by_kind k is (only Kind.Tcap k.kind) refl

  pub ready_alike : (rule : Rule) (now : ℕ) (job : Job) → ready t rule now job ≡ ready s rule now job
  ready_alike rule now job = ap (λ r. if is_due now job then r else None) (time_alike rule.sched job.task.tcap)

-- Entering a call changes nothing of what is read.
ready_entered : (s : State) (rule : Rule) (now : ℕ) (job : Job) → ready (entered s 0) rule now job ≡ ready s rule now job
unfolding reach
ready_entered s rule now job = refl

module _ (setting : Setting) (lim : IsSetting setting) (k : Maps) (events : List Event) (runs : IsRun setting (Enters 0 Flush ∷ events))
    (e : Represents k (after setting events)) where
  twins : Twins (entered (state_of k) 0) (after setting (Enters 0 Flush ∷ events)) (opened (Enters 0 Flush ∷ events)) 0
  twins = record {
    sound = runs_sound setting lim (Enters 0 Flush ∷ events) runs;
    ranges = ranges_hold setting lim (Enters 0 Flush ∷ events) runs;
    is_open = refl;
    same = entered_same (state_of k) (after setting events) 0
        (subst (λ (l : Limits). 0 < l.cores) (sym (limits_stay setting events)) runs.1.is_core) e;
  }

  ready_there : (rule : Rule) (now : ℕ) (job : Job) → ready (state_of k) rule now job ≡ ready (after setting events) rule now job
  ready_there rule now job = sym (ready_entered (state_of k) rule now job)
      ∙ ready_alike (entered (state_of k) 0) (after setting (Enters 0 Flush ∷ events)) (opened (Enters 0 Flush ∷ events)) twins rule now job
      ∙ ready_entered (after setting events) rule now job

-- A task is as ready as the plain kernel says.
pub ready_reached : (setting : Setting) → IsSetting setting → (k : Maps) (s : State) → IsReached setting k s
    → (rule : Rule) (now : ℕ) (job : Job) → ready (state_of k) rule now job ≡ ready s rule now job
ready_reached setting lim k s r rule now job =
    let runs : IsRun setting (Enters 0 Flush ∷ r.events) =
    (r.runs, record { is_core = (let some = lim.some_core in omega (arith, some)); is_out = r.quiet 0; in_limits = tt }) in
    ready_there setting lim k r.events runs (subst (λ x. Represents k x) (sym r.state) r.represents) rule now job
    ∙ ap (λ x. ready x rule now job) r.state

-- And so the same task is chosen.
pub chosen_reached : (setting : Setting) → IsSetting setting → (k : Maps) (s : State) → IsReached setting k s
    → (rule : Rule) (now i : ℕ) (jobs : List Job) → chosen (state_of k) rule now i jobs ≡ chosen s rule now i jobs
chosen_reached setting lim k s r rule now i [] = refl
chosen_reached setting lim k s r rule now i (job ∷ jobs) =
    λ j. lesser i job (ready_reached setting lim k s r rule now job j) (chosen_reached setting lim k s r rule now (i + 1) jobs j)

-- The core's current temporal capability is the one that the plain kernel says.
pub core_reached : (setting : Setting) → IsSetting setting → (k : Maps) (s : State) → IsReached setting k s
    → (state_of k).core 0 ≡ s.core 0
core_reached setting lim k s r = r.represents.core 0
    (let some = lim.some_core in
    let cores : s.limits.cores ≡ setting.cores = ap (λ (x : State). x.limits.cores) (sym r.state)
    ∙ ap (λ (l : Limits). l.cores) (limits_stay setting r.events) in
    omega (arith, some, cores))
