-- The count, and the frames, of a call that enters a component or leaves one.
use Rattle.step_ways.proofs.{◌≡◌, refl, ℕ, ◌≤◌, Bool, true, false, sym, ◌∙◌, [], ◌∷◌, ◌++◌, length, ap, arith, subst, IsTrue, ◌||◌, ◌==◌}
use Rattle.step_ways.proofs.{eq-eqb, Capability, Kind, Call, named_by, State, first_of_stack, thread_of, comp_of, counts_references}
use Rattle.step_ways.proofs.{changes_threads, frames_own, footprint_frames, is_one_of, First, at_place, plan_for, Leads, LeadsIn, Invoking}
use Rattle.step_ways.proofs.{InvokingAt, ReturningAt, Due, List, ℤ, pos, negsuc}
use Rattle.{step_ways.specs.core_invariant.specs.InvokesBy, step_ways.specs.core_invariant.specs.below_of}
use Rattle.{step_ways.specs.act_states.specs.invoking_dues, step_ways.specs.act_states.specs.returning_dues}
use Rattle.{plan_ways.proofs.footprint_found, plan_ways.proofs.one_left, std.proofs.Math.Bool.or-true}
use Rattle.{plan_ways.specs.spk_nums.specs.declared.calls.Call.TheVariants.Call as call_gate, count_invariant.proofs.MakingCounts.no_due}

-- The call that enters a component.
pub record IsInvoke (call : Call) (ks : List Capability) (m : Invoking) : Type 0 where
  pub name : ℕ
  pub gate : Capability
  pub call_is : call ≡ call_gate name
  pub found_is : ks ≡ gate ∷ []
  pub kind : gate.kind ≡ Kind.Gate
  pub frame : m.comp ≡ gate.frame
  pub epoch : m.epoch ≡ gate.arg

pub invoke_of : (call : Call) (ks : List Capability) (m : Invoking) → InvokesBy call ks m → IsInvoke call ks m
invoke_of (call_gate name) (gate ∷ []) m is = record {
  name = name;
  gate = gate;
  call_is = refl;
  found_is = refl;
  kind = is.kind;
  frame = is.frame;
  epoch = is.epoch;
}
invoke_of (call_gate name) [] m is = absurd is
invoke_of (call_gate name) (gate ∷ k ∷ ks) m is = absurd is
invoke_of call ks m is = absurd is

-- It changes references, and the words of threads; and so does a return.
pub invoke_counts : (call : Call) (ks : List Capability) (m : Invoking) → InvokesBy call ks m → IsTrue (counts_references call)
invoke_counts call ks m is = subst (λ x. IsTrue (counts_references x)) (sym (invoke_of call ks m is).call_is) refl

pub invoke_threads : (call : Call) (ks : List Capability) (m : Invoking) → InvokesBy call ks m → changes_threads call ≡ true
invoke_threads call ks m is = ap changes_threads (invoke_of call ks m is).call_is

-- The component is in its footprint.
pub invoke_footprint : (s : State) (c : ℕ) (call : Call) (ks : List Capability) (m : Invoking) → InvokesBy call ks m
    → Leads (LeadsIn s c) (plan_for call).names [] ks → is_one_of m.comp (footprint_frames s c call) ≡ true
invoke_footprint s c call ks m invokes leads =
    let is = invoke_of call ks m invokes in
    footprint_found s c call ks leads First is.gate (ap (λ xs. at_place xs First) is.found_is) m.comp
    (ap (λ (k : Kind). is_one_of m.comp (named_by k is.gate.frame)) is.kind ∙ ap (λ b. b || false)
    (eq-eqb is.gate.frame m.comp (sym is.frame)))

-- A core's thread, and each component on its stack, is in the footprint of each of its calls.
or_left : (a b : Bool) → a ≡ true → (a || b) ≡ true
or_left a b is = ap (λ x. x || b) is

or_right : (a b : Bool) → b ≡ true → (a || b) ≡ true
or_right a b is = ap (λ x. a || x) is ∙ or-true a

pub stack_footprint : (s : State) (c : ℕ) (call : Call) (f : ℕ) → is_one_of f (thread_of s c).stack ≡ true
    → is_one_of f (footprint_frames s c call) ≡ true
stack_footprint s c call f is = one_left f (frames_own s c) _
    (or_right ((s.core c).thread == f) _ (or_right ((s.core c).tcap == f) _
    (one_left f (thread_of s c).stack ((comp_of s c).table ∷ (comp_of s c).pages ∷ []) is)))

pub thread_footprint : (s : State) (c : ℕ) (call : Call) (f : ℕ) → (s.core c).thread ≡ f → is_one_of f (footprint_frames s c call) ≡ true
thread_footprint s c call f is = one_left f (frames_own s c) _ (or_left ((s.core c).thread == f) _ (eq-eqb (s.core c).thread f is))

pub first_one : (fs : List ℕ) → 1 ≤ length fs → is_one_of (first_of_stack fs) fs ≡ true
first_one [] some = absurd (omega (arith, some))
first_one (f ∷ fs) some = ap (λ b. b || is_one_of f fs) (eq-eqb f f refl)

pub below_one : (fs : List ℕ) → 2 ≤ length fs → is_one_of (below_of fs) fs ≡ true
below_one (f ∷ g ∷ fs) deep = or_right (f == g) (is_one_of g (g ∷ fs)) (ap (λ b. b || is_one_of g fs) (eq-eqb g g refl))
below_one _ deep = absurd (omega (arith, deep))

only_due : (f : ℕ) (z : ℤ) (xs : List Due) (d : Due) (rest : List Due) → record { frame = f; change = z } ∷ [] ≡ xs ++ d ∷ rest
    → d.frame ≡ f
only_due f z [] d rest is = sym (ap (λ (x : Due). x.frame) (head_same _ _ _ _ is))
  where
    head_same : (x y : Due) (xs ys : List Due) → x ∷ xs ≡ y ∷ ys → x ≡ y
    head_same x y xs ys h = cc
only_due f z (x ∷ xs) d rest is = absurd (no_due xs d rest (tail_same _ _ _ _ is))
  where
    tail_same : (x y : Due) (xs ys : List Due) → x ∷ xs ≡ y ∷ ys → xs ≡ ys
    tail_same x y xs ys h = cc

-- The count that an entering changes is that of the component's frame, and that of a leaving that of the top's.
pub invoking_due : (f : ℕ) (at : InvokingAt) (xs : List Due) (d : Due) (rest : List Due) → invoking_dues f at ≡ xs ++ d ∷ rest
    → d.frame ≡ f
invoking_due f (InvokingAt.LoadLive table pages life) xs d rest is = only_due f (pos 1) xs d rest is
invoking_due f _ xs d rest is = absurd (no_due xs d rest is)

pub returning_due : (f : ℕ) (at : ReturningAt) (xs : List Due) (d : Due) (rest : List Due) → returning_dues f at ≡ xs ++ d ∷ rest
    → d.frame ≡ f
returning_due f (ReturningAt.Draw comp table pages) xs d rest is = only_due f (negsuc 0) xs d rest is
returning_due f _ xs d rest is = absurd (no_due xs d rest is)

-- The component at the top of a core's stack is in the footprint of each of its calls.
pub top_footprint : (s : State) (c : ℕ) (call : Call) (top : ℕ) → top ≡ first_of_stack (thread_of s c).stack → 1 ≤ length
    (thread_of s c).stack
    → is_one_of top (footprint_frames s c call) ≡ true
top_footprint s c call top is some = stack_footprint s c call top
    (subst (λ (n : ℕ). is_one_of n (thread_of s c).stack ≡ true) (sym is) (first_one (thread_of s c).stack some))
