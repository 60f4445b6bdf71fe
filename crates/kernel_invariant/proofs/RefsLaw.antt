-- In every state that a run reaches, references change by what a call takes less what it releases.
use Rattle.kernel_rules.proofs.{◌≡◌, ℕ, ◌+◌, refl, sym, ap, arith, Value, times, core_names, node_refs, refs, begun, Change, Judged}
use Rattle.kernel_rules.proofs.{Refused, Found, IsFoundAnd, rule_of, change_of, changed, counted, after, is_open, IfFound}
use Rattle.kernel_rules.specs.{State.State, Laws.released, Laws.RefsChange}
use Rattle.kernel_invariant.proofs.{Sums.sum_same, Sound.put_all, Facts.outcome_from, SoundRuns.opened, SoundRuns.open_limits}
use Rattle.kernel_invariant.proofs.{SoundRuns.open_is, Refs.RefsBy, Refs.grace_refs, Refs.rule_refs}

-- A call that is counted changes no reference.
pub counted_refs : (s : State) (c f : ℕ) → refs (counted s c) f ≡ refs s f
unfolding refs node_refs
counted_refs s c f =
    let a = sum_same (λ d. times f (core_names (s.core d))) (λ d. times f (core_names ((counted s c).core d))) s.limits.cores (λ d below.
    put_all (λ d k. times f (core_names k) ≡ times f (core_names (s.core d))) s.core c _ d
    (λ same. ap (λ n. times f (core_names (s.core n))) (sym same)) (λ other. refl)) in
    omega (arith, a)

changed_refs : (s : State) (c : ℕ) (v : Value) (found : Judged Change) → IfFound found (RefsBy s) → IsFoundAnd found (λ k. k.value ≡ v)
    → IsFoundAnd found λ change. (f : ℕ)
    → refs (counted (changed s found) c) f + times f (released change.begins) ≡ refs s f + times f change.takes
changed_refs s c v (Refused r) by ok = absurd ok
changed_refs s c v (Found change) by ok = λ f.
    let a = counted_refs (begun s change.begins change.next) c f in
    let b = grace_refs change.next (begun s change.begins change.next).grace f in
    let d = by f in
    omega (arith, a, b, d)

pub refs_change : RefsChange
refs_change setting lim events run c call v may =
    changed_refs (after setting events) c v (change_of (after setting events) c call)
    (outcome_from (RefsBy (after setting events)) (after setting events) c (rule_of (after setting events) c call)
    (rule_refs (after setting events) (opened events) c (open_is setting lim events c run (ap is_open may.is_open)) call
    (open_limits setting events c call run may.is_open)))
    may.permitted.1.1
