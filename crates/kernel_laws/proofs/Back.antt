-- What a core has had back is the sum of its replenishments, and no more than it has spent.
use Rattle.found_stays.specs.kernel_rules.proofs.{◌≡◌, ◌≢◌, ◌⊎◌, inl, inr, ℕ, ◌+◌, ◌-◌, ◌≤◌, arith, Bool, true, false, refl, sym, ◌∙◌, ap}
use Rattle.found_stays.specs.kernel_rules.proofs.{subst, ◌==◌, if◌then◌else◌, List, [], ◌∷◌, eq-eqb, ne_eqb, Setting, IsSetting, Call, Tick}
use Rattle.found_stays.specs.kernel_rules.proofs.{Replenish, Value, Reply, Core, put, caching, charge, Give, Edit, Cache, Charge, edited}
use Rattle.found_stays.specs.kernel_rules.proofs.{after_edits, change_of, changed, counted, owed_by, state_by, MayReply, Event, Enters}
use Rattle.found_stays.specs.kernel_rules.proofs.{Decides, Returns, after, is_open, IsRun, put_same, put_other}
use Rattle.found_stays.specs.kernel_invariant.proofs.{put_all, IsOpen, opened, open_is, Known, Each, after_ok}
use Rattle.found_stays.specs.kernel_invariant.specs.{charged_by, charged_in, charged_all}
use Rattle.std.proofs.lemmas.Bool.{cases_eq}
use Rattle.found_stays.specs.kernel_rules.specs.{State.State, Edits.Switch, Edits.Flush}
use Rattle.kernel_laws.specs.Laws.{given_of, given_by, back_by, decided_back, IsHadBack, BackSums}

-- Core c has had so many ticks more back, and no more than it has spent; no other core changes what it has spent and had back.
pub record Gets (s : State) (c n : ℕ) (core : ℕ → Core) : Type 0 where
  pub own : (core c).back ≡ (s.core c).back + n
  pub within : (s.core c).back ≤ (s.core c).spent → (core c).back ≤ (core c).spent
  pub others : (d : ℕ) → d ≢ c → (core d ≡ s.core d)

same : (s : State) (c : ℕ) → Gets s c 0 s.core
same s c = record { own = omega arith; within = λ w. w; others = λ d other. refl }

own : (s : State) (c n : ℕ) (k : Core) → k.back ≡ (s.core c).back + n
    → ((s.core c).back ≤ (s.core c).spent → k.back ≤ k.spent) → Gets s c n (put s.core c k)
own s c n k sum within = record {
  own = ap (λ (x : Core). x.back) (put_same s.core c k c refl) ∙ sum;
  within = λ w. subst (λ (x : Core). x.back ≤ x.spent) (sym (put_same s.core c k c refl)) (within w);
  others = λ d other. put_other s.core c k d other;
}

pub edit_back : (c : ℕ) (s : State) (e : Edit) → Known c s e → Gets s c (charged_in e).1 (edited c s e).core
edit_back c s (Switch h q) known = own s c 0 (record (s.core c) { thread = h; tcap = q }) (omega arith) (λ w. w)
edit_back c s (Cache t) known = own s c 0 (record (s.core c) { cached = caching (s.core c).cached t }) (omega arith) (λ w. w)
edit_back c s Flush known = own s c 0 (record (s.core c) { cached = [] }) (omega arith) (λ w. w)
edit_back c s (Charge n) known =
    let m : ℕ = charge s c (n + (s.core c).owed) in
    own s c 0 (record (s.core c) { spent = (s.core c).spent + m; owed = (n + (s.core c).owed) - m }) (omega arith)
    (λ w. omega (arith, w))
edit_back c s (Give f m) known =
    own s c m (record (s.core c) { back = (s.core c).back + m }) refl (λ w. let enough = known.enough in omega (arith, w, enough))
edit_back c s _ known = same s c

pub edits_back : (c : ℕ) (s : State) (es : List Edit) → Each Known c s es → Gets s c (charged_all es).1 (after_edits c s es).core
edits_back c s [] known = same s c
edits_back c s (e ∷ []) known = edit_back c s e known.0
edits_back c s (e ∷ (x ∷ es)) known =
    let a = edit_back c s e known.0 in
    let b = edits_back c (edited c s e) (x ∷ es) known.1 in
    record {
      own = (let p = a.own in let q = b.own in omega (arith, p, q));
      within = λ w. b.within (a.within w);
      others = λ d other. b.others d other ∙ a.others d other;
    }

given_ticks : (call : Call) → (charged_by call).1 ≡ given_of call
given_ticks (Tick n) = refl
given_ticks (Replenish a m) = refl
given_ticks _ = refl

changed_back : (s : State) (o : ℕ → Bool) (c : ℕ) (call : Call) (v : Value) → IsOpen s o c → MayReply s c call (Reply.Ok v)
    → Gets s c (given_of call) (changed s (change_of s c call)).core
changed_back s o c call v h may = after_ok s c call v (λ t. Gets s c (given_of call) t.core) may (λ es e.
    subst (λ n. Gets s c n (after_edits c s es).core) (ap (λ (p : ℕ × ℕ). p.1) (sym e.agrees.3) ∙ given_ticks call)
    (edits_back c s es (e.known o h)))

-- A core is counted.
counts : (s : State) (c n : ℕ) (t : State) → Gets s c n t.core → Gets s c n (counted t c).core
counts s c n t by = record {
  own = ap (λ (x : Core). x.back) (put_same t.core c _ c refl) ∙ by.own;
  within = λ w. subst (λ (x : Core). x.back ≤ x.spent) (sym (put_same t.core c _ c refl)) (by.within w);
  others = λ d other. put_other t.core c _ d other ∙ by.others d other;
}

owed_back : (s : State) (c : ℕ) (call : Call) → Gets s c 0 (owed_by s c call).core
owed_back s c (Tick n) = own s c 0 (record (s.core c) { owed = (s.core c).owed + n }) (omega arith) (λ w. w)
owed_back s c _ = same s c

decided_gets : (s : State) (o : ℕ → Bool) (c : ℕ) (call : Call) (r : Reply) → IsOpen s o c → MayReply s c call r
    → Gets s c (given_by call r) (state_by s c call r).core
decided_gets s o c call (Reply.Ok v) h may =
    counts s c (given_of call) (changed s (change_of s c call)) (changed_back s o c call v h may)
decided_gets s o c call Reply.CallsSpent h may = same s c
decided_gets s o c call Reply.Raced h may = counts s c 0 (owed_by s c call) (owed_back s c call)
decided_gets s o c call (Reply.Busy e) h may = counts s c 0 (owed_by s c call) (owed_back s c call)
decided_gets s o c call _ h may = counts s c 0 s (same s c)

-- A core enters or returns.
moved_core : (s : State) (d : ℕ) (k : Core) → k.back ≡ (s.core d).back → k.spent ≡ (s.core d).spent → (c : ℕ)
    → ((put s.core d k c).back ≡ (s.core c).back) × ((put s.core d k c).spent ≡ (s.core c).spent)
moved_core s d k back spent c = put_all (λ c (x : Core). (x.back ≡ (s.core c).back) × (x.spent ≡ (s.core c).spent)) s.core d k c
    (λ at. (back ∙ ap (λ n. (s.core n).back) (sym at), spent ∙ ap (λ n. (s.core n).spent) (sym at))) (λ other. (refl, refl))

by_own : (c d n : ℕ) → c ≡ d → (if c == d then n else 0) ≡ n
by_own c d n is = ap (λ b. if b then n else 0) (eq-eqb c d is)

by_other : (c d n : ℕ) → c ≢ d → (if c == d then n else 0) ≡ 0
by_other c d n other = ap (λ b. if b then n else 0) (ne_eqb c d other)

-- A decision of core d is core c's, or another's.
decided_back_at : (s t : State) (d n c : ℕ) → Gets s d n t.core → (c ≡ d) ⊎ (c ≢ d)
    → ((t.core c).back ≡ (s.core c).back + (if c == d then n else 0))
    × ((s.core c).back ≤ (s.core c).spent → (t.core c).back ≤ (t.core c).spent)
decided_back_at s t d n c by (inl is) =
    let e = by_own c d n is in
    let a : (t.core c).back ≡ (s.core c).back + n = ap (λ k. (t.core k).back) is ∙ by.own ∙ ap (λ k. (s.core k).back + n) (sym is) in (
      omega (arith, a, e),
      subst (λ k. (s.core k).back ≤ (s.core k).spent → (t.core k).back ≤ (t.core k).spent) (sym is) by.within,
    )
decided_back_at s t d n c by (inr other) =
    let e = by_other c d n other in
    let a = ap (λ (k : Core). k.back) (by.others c other) in
    let b = ap (λ (k : Core). k.spent) (by.others c other) in
    (omega (arith, a, e), λ w. omega (arith, a, b, w))

pub back_sums : BackSums
back_sums setting lim [] run c = record { is = refl; within = omega arith }
back_sums setting lim (Enters d call ∷ events) run c =
    let old = back_sums setting lim events run.0 c in
    let a = moved_core (after setting events) d (record ((after setting events).core d) { inside = true }) refl refl c in
    record {
      is = (let p = a.0 in let q = old.is in omega (arith, p, q));
      within = (let p = a.0 in let q = a.1 in let w = old.within in omega (arith, p, q, w));
    }
back_sums setting lim (Returns d ∷ events) run c =
    let old = back_sums setting lim events run.0 c in
    let a = moved_core (after setting events) d (record ((after setting events).core d) { inside = false }) refl refl c in
    record {
      is = (let p = a.0 in let q = old.is in omega (arith, p, q));
      within = (let p = a.0 in let q = a.1 in let w = old.within in omega (arith, p, q, w));
    }
back_sums setting lim (Decides d call r ∷ events) run c =
    let old = back_sums setting lim events run.0 c in
    let s : State = after setting events in
    let by = decided_gets s (opened events) d call r (open_is setting lim events d run.0 (ap is_open run.1.is_open)) run.1.permitted in
    let now = decided_back_at s (state_by s d call r) d (given_by call r) c by (cases_eq c d) in
    record {
      is = (let p = now.0 in let q = old.is in omega (arith, p, q));
      within = now.1 old.within;
    }

-- No core that a run reaches has had back more than it has spent.
pub within_spent : (setting : Setting) → IsSetting setting → (events : List Event) → IsRun setting events
    → (c : ℕ) → ((after setting events).core c).back ≤ ((after setting events).core c).spent
within_spent setting lim events run c = (back_sums setting lim events run c).within
