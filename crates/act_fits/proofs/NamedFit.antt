-- Which frames the names of a call have led to, where they were found as its plan wants them.
use Rattle.act_fits.proofs.Common.{◌≡◌, ℕ, ◌+◌, ◌<◌, ◌≤◌, true, List, [], ◌∷◌, IfSome, arith, Capability, Kind, Range, Table, Pages}
use Rattle.act_fits.proofs.Common.{KindComp, Call, make_call, Gate, Grow, Switch, Transfer, Delegate, Test, Part, Replenish, found, root}
use Rattle.act_fits.proofs.Common.{end_of_frames, First, Second, Third, Fourth, at_place, plan_for, FoundFits, Make}
use Rattle.call_stages.specs.kernel_rules.specs.{only, leaf_of}

-- the names of two temporal capabilities have led to frames of the machine
abbrev pub TwoNamed : ℕ → List Capability → Type 0
TwoNamed frames found = IfSome (at_place found First) (λ k. k.frame < frames) × IfSome (at_place found Second) (λ k. k.frame < frames)

-- the name of a thread's component has led to a frame of the machine, and so have those of a component's table and pages, and of a thread
-- and a temporal capability with which a core goes on; that of a range of which a part is handed out names no frames past the machine's
abbrev pub ObjectNamed : ℕ → Call → List Capability → Type 0
ObjectNamed frames (Grow t i l) found = IfSome (at_place found Second) (λ k. k.frame < frames)
ObjectNamed frames (make_call (Make.Thread comp) r f t b) found = IfSome (at_place found Third) (λ k. k.frame < frames)
ObjectNamed frames (Gate c t b) found = IfSome (at_place found First) (λ k. k.frame < frames)
ObjectNamed frames (make_call (Make.Comp table pages live) r f t b) found =
    IfSome (at_place found Third) (λ k. k.frame < frames) × IfSome (at_place found Fourth) (λ k. k.frame < frames)
ObjectNamed frames (Switch h q) found = IfSome (at_place found First) (λ k. k.frame < frames)
    × IfSome (at_place found Second) (λ k. k.frame < frames)
ObjectNamed frames (Transfer a b m) found = TwoNamed frames found
ObjectNamed frames (Delegate a b m) found = TwoNamed frames found
ObjectNamed frames (Test a b) found = TwoNamed frames found
ObjectNamed frames (Replenish a m) found = IfSome (at_place found First) (λ k. k.frame < frames)
ObjectNamed frames (Part r f n t b) found = IfSome (at_place found First) (λ k. k.frame + k.arg ≤ frames)
ObjectNamed frames call found = Unit {0}

pub comp_below : (frames : ℕ) (kind : Kind) (frame arg : ℕ) → only KindComp kind ≡ true → end_of_frames kind frame arg ≤ frames
    → frame < frames
comp_below frames Range frame arg wanted names = absurd (cc)
comp_below frames kind frame arg wanted names = omega (arith, names)

pub no_range : (root : Kind) → only (leaf_of root) Range ≡ true → ⊥
no_range Table wanted = cc
no_range root wanted = cc

pub leaf_below : (frames : ℕ) (root kind : Kind) (frame arg : ℕ) → only (leaf_of root) kind ≡ true → end_of_frames kind frame arg ≤ frames
    → frame < frames
leaf_below frames root Range frame arg wanted names = absurd (no_range root wanted)
leaf_below frames root kind frame arg wanted names = omega (arith, names)

pub table_below : (frames : ℕ) (kind : Kind) (frame arg : ℕ) → only Table kind ≡ true → end_of_frames kind frame arg ≤ frames
    → frame < frames
table_below frames Range frame arg wanted names = absurd (cc)
table_below frames kind frame arg wanted names = omega (arith, names)

pub pages_below : (frames : ℕ) (kind : Kind) (frame arg : ℕ) → only Pages kind ≡ true → end_of_frames kind frame arg ≤ frames
    → frame < frames
pages_below frames Range frame arg wanted names = absurd (cc)
pages_below frames kind frame arg wanted names = omega (arith, names)

pub thread_below : (frames : ℕ) (k : Kind) (frame arg : ℕ) → only Kind.Thread k ≡ true → end_of_frames k frame arg ≤ frames
    → frame < frames
thread_below frames Range frame arg wanted names = absurd (cc)
thread_below frames k frame arg wanted names = omega (arith, names)

pub tcap_below : (frames : ℕ) (k : Kind) (frame arg : ℕ) → only Kind.Tcap k ≡ true → end_of_frames k frame arg ≤ frames
    → frame < frames
tcap_below frames Range frame arg wanted names = absurd (cc)
tcap_below frames k frame arg wanted names = omega (arith, names)

pub range_ends : (frames : ℕ) (kind : Kind) (frame arg : ℕ) → only Range kind ≡ true → end_of_frames kind frame arg ≤ frames
    → frame + arg ≤ frames
range_ends frames Range frame arg wanted names = names
range_ends frames kind frame arg wanted names = absurd (cc)

pub two_named : (frames a b : ℕ) (found : List Capability) → FoundFits frames (plan_for (Test a b)) found → TwoNamed frames found
two_named frames a b [] leads = (tt, tt)
two_named frames a b (k ∷ []) leads = (tcap_below frames k.kind k.frame k.arg leads.0.0 leads.0.1, tt)
two_named frames a b (k ∷ j ∷ ks) leads = (
  tcap_below frames k.kind k.frame k.arg leads.0.0 leads.0.1,
  tcap_below frames j.kind j.frame j.arg leads.1.0.0 leads.1.0.1,
)

pub object_named : (frames : ℕ) (call : Call) (found : List Capability) → FoundFits frames (plan_for call) found
    → ObjectNamed frames call found
object_named frames (Grow t i l) [] leads = tt
object_named frames (Grow t i l) (k ∷ []) leads = tt
object_named frames (Grow t i l) (k ∷ j ∷ ks) leads = leaf_below frames k.kind j.kind j.frame j.arg leads.1.0.0 leads.1.0.1
object_named frames (make_call (Make.Thread comp) r f t b) [] leads = tt
object_named frames (make_call (Make.Thread comp) r f t b) (k ∷ []) leads = tt
object_named frames (make_call (Make.Thread comp) r f t b) (k ∷ j ∷ []) leads = tt
object_named frames (make_call (Make.Thread comp) r f t b) (k ∷ j ∷ i ∷ ks) leads =
    comp_below frames i.kind i.frame i.arg leads.1.1.0.0 leads.1.1.0.1
object_named frames (Gate c t b) [] leads = tt
object_named frames (Gate c t b) (k ∷ ks) leads = comp_below frames k.kind k.frame k.arg leads.0.0 leads.0.1
object_named frames (make_call (Make.Comp table pages live) r f t b) [] leads = (tt, tt)
object_named frames (make_call (Make.Comp table pages live) r f t b) (k ∷ []) leads = (tt, tt)
object_named frames (make_call (Make.Comp table pages live) r f t b) (k ∷ j ∷ []) leads = (tt, tt)
object_named frames (make_call (Make.Comp table pages live) r f t b) (k ∷ j ∷ i ∷ []) leads =
    (table_below frames i.kind i.frame i.arg leads.1.1.0.0 leads.1.1.0.1, tt)
object_named frames (make_call (Make.Comp table pages live) r f t b) (k ∷ j ∷ i ∷ h ∷ ks) leads = (
  table_below frames i.kind i.frame i.arg leads.1.1.0.0 leads.1.1.0.1,
  pages_below frames h.kind h.frame h.arg leads.1.1.1.0.0 leads.1.1.1.0.1,
)
object_named frames (Switch h q) [] leads = (tt, tt)
object_named frames (Switch h q) (k ∷ []) leads = (thread_below frames k.kind k.frame k.arg leads.0.0 leads.0.1, tt)
object_named frames (Switch h q) (k ∷ j ∷ ks) leads = (
  thread_below frames k.kind k.frame k.arg leads.0.0 leads.0.1,
  tcap_below frames j.kind j.frame j.arg leads.1.0.0 leads.1.0.1,
)
object_named frames (Transfer a b m) ks leads = two_named frames a b ks leads
object_named frames (Delegate a b m) ks leads = two_named frames a b ks leads
object_named frames (Test a b) ks leads = two_named frames a b ks leads
object_named frames (Replenish a m) [] leads = tt
object_named frames (Replenish a m) (k ∷ ks) leads = tcap_below frames k.kind k.frame k.arg leads.0.0 leads.0.1
object_named frames (Part r f n t b) [] leads = tt
object_named frames (Part r f n t b) (k ∷ ks) leads = range_ends frames k.kind k.frame k.arg leads.0.0 leads.0.1
object_named frames call found leads = tt
