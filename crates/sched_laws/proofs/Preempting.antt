-- A ready task does not preempt the chosen one.
use Rattle.sched_laws.proofs.Common.{◌≡◌, ℕ, ◌<◌, ◌≤◌, Bool, true, false, ◌&&◌, ◌==◌, refl, sym, ◌∙◌, ap, subst, arith, nat_lt}
use Rattle.sched_laws.proofs.Common.{if◌then◌else◌, List, [], ◌∷◌, Some, eqb-true, ne_eqb, le-ltb, and_right, number_of, is_smaller}
use Rattle.sched_laws.proofs.Common.{is_better, preempts_by, tcap_at}
use Rattle.sched_laws.specs.Least.{OthersStay}
use Rattle.sched_laws.proofs.{Picks.best, Picks.first_of_all, Readiness.ready_tells}

-- A list is no better than one that gives a scheduler of both no greater number.
not_better : (xs ys : List (ℕ × ℕ)) (sched n m : ℕ) → number_of xs sched ≡ Some n → number_of ys sched ≡ Some m → m ≤ n
    → is_better xs ys ≡ false
not_better [] ys sched n m x y le = absurd (cc)
not_better (p ∷ xs) ys sched n m x y le = by_name (λ e. not_better xs ys sched n m e y le) (p.0 == sched) refl x
  where
    by_name : (number_of xs sched ≡ Some n → is_better xs ys ≡ false) → (b : Bool) → (p.0 == sched) ≡ b
        → (if b then Some p.1 else number_of xs sched) ≡ Some n
        → (is_smaller p.1 (number_of ys p.0) && is_better xs ys) ≡ false
    by_name rest true on e =
        let same : p.0 ≡ sched = eqb-true p.0 sched on in
        let number : p.1 ≡ n = cc in
        let worse : is_smaller p.1 (number_of ys p.0) ≡ false =
        ap (λ o. is_smaller p.1 o) (ap (number_of ys) same ∙ y) ∙ ap (λ k. nat_lt k m) number ∙ le-ltb n m le in
        ap (λ b. b && is_better xs ys) worse
    by_name rest false off e = and_right (is_smaller p.1 (number_of ys p.0)) (is_better xs ys) (rest e)

not_preempted : (b : ℕ) (xs : List (ℕ × ℕ)) (d : ℕ) (ys : List (ℕ × ℕ)) → 0 < b → 0 < d → is_better xs ys ≡ false
    → preempts_by b xs d ys ≡ false
not_preempted b xs d ys some other worse =
    ap (λ t. if t then false else if d == 0 then true else is_better xs ys) (ne_eqb b 0 (λ e. omega (arith, e, some)))
    ∙ ap (λ t. if t then true else is_better xs ys) (ne_eqb d 0 (λ e. omega (arith, e, other)))
    ∙ worse

pub others_stay : OthersStay
others_stay s rule now jobs c is k other r at e =
    let mine = ready_tells s rule now c.job c.ready (best s rule now 0 jobs c is).is_ready in
    let theirs = ready_tells s rule now other r e in
    let least = (first_of_all s rule now jobs c is k other r at e).least in
    not_preempted (tcap_at s r.tcap).budget (tcap_at s r.tcap).qualities (tcap_at s c.ready.tcap).budget (tcap_at s c.ready.tcap).qualities
    (subst (λ n. 0 < n) (sym theirs.budget) theirs.some) (subst (λ n. 0 < n) (sym mine.budget) mine.some)
    (not_better (tcap_at s r.tcap).qualities (tcap_at s c.ready.tcap).qualities rule.sched r.number c.ready.number
    theirs.number mine.number least)
