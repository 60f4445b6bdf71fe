-- What a core has spent and owes is the sum of its decided ticks.
use Rattle.found_stays.specs.kernel_rules.proofs.{◌≡◌, ◌≢◌, ◌⊎◌, inl, inr, ℕ, ◌+◌, ◌-◌, ◌≤◌, min, arith, IsTrue, refl, sym, ◌∙◌, ap, subst}
use Rattle.found_stays.specs.kernel_rules.proofs.{true, false, ◌==◌, if◌then◌else◌, List, [], ◌∷◌, eq-eqb, ne_eqb, false≢true, Call, Tick}
use Rattle.found_stays.specs.kernel_rules.proofs.{Value, Reply, Core, put, RuleMay, caching, tcap_at, charge, Edit, Cache, Charge, Give}
use Rattle.found_stays.specs.kernel_rules.proofs.{edited, after_edits, asks_life, rule_of, change_of, changed, counted, owed_by, state_by}
use Rattle.found_stays.specs.kernel_rules.proofs.{MayReply, Enters, Decides, Returns, after, put_same, put_other}
use Rattle.found_stays.specs.kernel_invariant.specs.{charged_by, charged_in, charged_all}
use Rattle.found_stays.specs.kernel_invariant.proofs.{put_all, after_ok}
use Rattle.std.proofs.lemmas.Bool.{cases_eq}
use Rattle.found_stays.specs.kernel_rules.specs.{State.State, Edits.Switch, Edits.Flush, CallRelation.MayBeDead}
use Rattle.kernel_laws.specs.Laws.{ticks_of, ticks_counted, ticks_by, decided_ticks, SpendingSums}

-- What a core has spent and owes.
abbrev due : Core → ℕ
due k = k.spent + k.owed

-- Core c's due rises by so many ticks, and no other's.
record Counts (s : State) (c n : ℕ) (core : ℕ → Core) : Type 0 where
  own : due (core c) ≡ due (s.core c) + n
  others : (d : ℕ) → d ≢ c → due (core d) ≡ due (s.core d)

same : (s : State) (c : ℕ) → Counts s c 0 s.core
same s c = record { own = omega arith; others = λ d other. refl }

own : (s : State) (c n : ℕ) (k : Core) → due k ≡ due (s.core c) + n → Counts s c n (put s.core c k)
own s c n k sum = record {
  own = ap due (put_same s.core c k c refl) ∙ sum;
  others = λ d other. ap due (put_other s.core c k d other);
}

edit_due : (c : ℕ) (s : State) (e : Edit) → Counts s c (charged_in e).0 (edited c s e).core
edit_due c s (Switch h q) = own s c 0 (record (s.core c) { thread = h; tcap = q }) (omega arith)
edit_due c s (Cache t) = own s c 0 (record (s.core c) { cached = caching (s.core c).cached t }) (omega arith)
edit_due c s Flush = own s c 0 (record (s.core c) { cached = [] }) (omega arith)
edit_due c s (Charge n) =
    let m : ℕ = charge s c (n + (s.core c).owed) in
    own s c n (record (s.core c) { spent = (s.core c).spent + m; owed = (n + (s.core c).owed) - m })
    (let small : m ≤ n + (s.core c).owed = least (n + (s.core c).owed) (tcap_at s (s.core c).tcap).budget in omega (arith, small))
  where
    least : (a b : ℕ) → min a b ≤ a
    least a b = omega arith
edit_due c s (Give f m) = own s c 0 (record (s.core c) { back = (s.core c).back + m }) (omega arith)
edit_due c s _ = same s c

edits_due : (c : ℕ) (s : State) (es : List Edit) → Counts s c (charged_all es).0 (after_edits c s es).core
edits_due c s [] = same s c
edits_due c s (e ∷ []) = edit_due c s e
edits_due c s (e ∷ (x ∷ es)) =
    let a = edit_due c s e in
    let b = edits_due c (edited c s e) (x ∷ es) in
    record {
      own = (let p = a.own in let q = b.own in omega (arith, p, q));
      others = λ d other. b.others d other ∙ a.others d other;
    }

charged_ticks : (call : Call) → (charged_by call).0 ≡ ticks_of call
charged_ticks (Tick n) = refl
charged_ticks _ = refl

-- A decision: the counted ticks of a call by its reply.
changed_due : (s : State) (c : ℕ) (call : Call) (v : Value) → MayReply s c call (Reply.Ok v)
    → Counts s c (ticks_of call) (changed s (change_of s c call)).core
changed_due s c call v may = after_ok s c call v (λ t. Counts s c (ticks_of call) t.core) may (λ es e.
    subst (λ n. Counts s c n (after_edits c s es).core) (ap (λ (p : ℕ × ℕ). p.0) (sym e.agrees.3) ∙ charged_ticks call)
    (edits_due c s es))

-- A core is counted.
counted_due : (s t : State) (c n : ℕ) (k : Core) → due k ≡ due (t.core c) → Counts s c n t.core → Counts s c n (put t.core c k)
counted_due s t c n k e by = record {
  own = ap due (put_same t.core c k c refl) ∙ e ∙ by.own;
  others = λ d other. ap due (put_other t.core c k d other) ∙ by.others d other;
}

owed_due : (s : State) (c : ℕ) (call : Call) → Counts s c (ticks_of call) (owed_by s c call).core
owed_due s c (Tick n) = own s c n (record (s.core c) { owed = (s.core c).owed + n }) (omega arith)
owed_due s c _ = same s c

-- No `tick` is refused with a reply of its own.
no_ticks : (s : State) (c : ℕ) (r : Reply) (call : Call) → RuleMay s c (rule_of s c call) r → ticks_of call ≡ 0
no_ticks s c r (Tick n) h = absurd h
no_ticks s c r _ h = refl

no_life : (call : Call) → IsTrue (asks_life call) → ticks_of call ≡ 0
no_life (Tick n) h = absurd (false≢true h)
no_life _ h = refl

-- The due of the cores after a decision.
counts : (s : State) (c n : ℕ) (t : State) → Counts s c n t.core → Counts s c n (counted t c).core
counts s c n t by = counted_due s t c n (record (t.core c) { counted = (t.core c).counted + 1 }) refl by

decided_due : (s : State) (c : ℕ) (call : Call) (r : Reply) → MayReply s c call r
    → Counts s c (ticks_counted call r) (state_by s c call r).core
decided_due s c call (Reply.Ok v) may =
    counts s c (ticks_of call) (changed s (change_of s c call))
    (changed_due s c call v may)
decided_due s c call Reply.CallsSpent may = same s c
decided_due s c call Reply.Raced may = counts s c (ticks_of call) (owed_by s c call) (owed_due s c call)
decided_due s c call (Reply.Busy e) may = counts s c (ticks_of call) (owed_by s c call) (owed_due s c call)
decided_due s c call Reply.Dead may = dead_due may.1
  where
    -- no `tick` asks for life
    dead_due : MayBeDead s c call ⊎ RuleMay s c (rule_of s c call) Reply.Dead → Counts s c (ticks_of call) (counted s c).core
    dead_due (inl h) = counts s c (ticks_of call) s (subst (λ n. Counts s c n s.core) (sym (no_life call h.0)) (same s c))
    dead_due (inr h) = counts s c (ticks_of call) s (subst (λ n. Counts s c n s.core) (sym (no_ticks s c Reply.Dead call h)) (same s c))
decided_due s c call r may =
    counts s c (ticks_of call) s (subst (λ n. Counts s c n s.core) (sym (no_ticks s c r call may.1)) (same s c))

-- A core that keeps its spent and owed ticks.
moved_due : (s : State) (c : ℕ) (k : Core) → due k ≡ due (s.core c) → (d : ℕ) → due (put s.core c k d) ≡ due (s.core d)
moved_due s c k e d = put_all (λ d x. due x ≡ due (s.core d)) s.core c k d (λ at. e ∙ ap (λ n. due (s.core n)) (sym at)) (λ other. refl)

by_own : (c d n : ℕ) → c ≡ d → (if c == d then n else 0) ≡ n
by_own c d n same = ap (λ b. if b then n else 0) (eq-eqb c d same)

by_other : (c d n : ℕ) → c ≢ d → (if c == d then n else 0) ≡ 0
by_other c d n other = ap (λ b. if b then n else 0) (ne_eqb c d other)

pub spending_sums : SpendingSums
spending_sums setting [] run c = refl
spending_sums setting (Enters d call ∷ events) run c =
    let a = moved_due (after setting events) d (record ((after setting events).core d) { inside = true }) refl c in
    let b = spending_sums setting events run.0 c in
    omega (arith, a, b)
spending_sums setting (Returns d ∷ events) run c =
    let a = moved_due (after setting events) d (record ((after setting events).core d) { inside = false }) refl c in
    let b = spending_sums setting events run.0 c in
    omega (arith, a, b)
spending_sums setting (Decides d call r ∷ events) run c = by_core (spending_sums setting events run.0) (cases_eq c d)
  where
    by : Counts (after setting events) d (ticks_counted call r) (state_by (after setting events) d call r).core
    by = decided_due (after setting events) d call r run.1.permitted

    by_core : ((c : ℕ) → due ((after setting events).core c) ≡ decided_ticks events c) → (c ≡ d) ⊎ (c ≢ d)
        → due ((after setting (Decides d call r ∷ events)).core c) ≡ ticks_by (Decides d call r) c + decided_ticks events c
    by_core old (inl same) =
        let a : due ((state_by (after setting events) d call r).core c) ≡ due ((after setting events).core c) + ticks_counted call r =
        ap (λ n. due ((state_by (after setting events) d call r).core n)) same ∙ by.own
        ∙ ap (λ n. due ((after setting events).core n) + ticks_counted call r) (sym same) in
        let b = old c in
        let e = by_own c d (ticks_counted call r) same in
        omega (arith, a, b, e)
    by_core old (inr other) =
        let a = by.others c other in
        let b = old c in
        let e = by_other c d (ticks_counted call r) other in
        omega (arith, a, b, e)
