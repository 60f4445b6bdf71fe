-- What a core has cached stays in its list, in order, till it flushes.
use Rattle.kernel_laws.proofs.{◌≡◌, ◌≢◌, ℕ, Bool, true, false, ◌||◌, refl, sym, ◌∙◌, ap, subst, ltb as nat_lt, if◌then◌else◌, List, [], ◌∷◌}
use Rattle.kernel_laws.proofs.{◌++◌, length, false≢true, Call, Tick, Translation, Reply, Core, State, put, Value, Change, does, Judged}
use Rattle.kernel_laws.proofs.{Refused, Found, caching, Edit, Cache, Charge, Give, edited, after_edits, change_of, changed, counted}
use Rattle.kernel_laws.proofs.{owed_by, state_by, flushes, flushes_by, IfFound, put_all, Edits, found_by}
use Rattle.kernel_laws.specs.kernel_rules.specs.Edits.{Switch, Flush}
use Rattle.kernel_laws.specs.kernel_invariant.specs.Edits.{is_flush, flush_in}
use Rattle.state_laws.specs.Cached.{Begins}

pub begins_same : (xs : List Translation) → Begins xs xs
begins_same xs = record { more = []; is = sym (end xs) }
  where
    end : (xs : List Translation) → xs ++ [] ≡ xs
    end [] = refl
    end (x ∷ xs) = ap (λ ys. x ∷ ys) (end xs)

pub begins_then : (xs ys zs : List Translation) → Begins xs ys → Begins ys zs → Begins xs zs
begins_then xs ys zs a b = record { more = a.more ++ b.more; is = b.is ∙ ap (λ l. l ++ b.more) a.is ∙ joined xs a.more b.more }
  where
    joined : (xs ys zs : List Translation) → (xs ++ ys) ++ zs ≡ xs ++ (ys ++ zs)
    joined [] ys zs = refl
    joined (x ∷ xs) ys zs = ap (λ l. x ∷ l) (joined xs ys zs)

begins_caching : (xs : List Translation) (x : Translation) → Begins xs (caching xs x)
begins_caching xs x = by (nat_lt (length xs) 64)
  where
    by : (b : Bool) → Begins xs (if b then xs ++ x ∷ [] else xs)
    by true = record { more = x ∷ []; is = refl }
    by false = begins_same xs

-- Each core's list goes on, but for that of the core which flushes.
pub record GoOn (s : State) (c : ℕ) (flush : Bool) (core : ℕ → Core) : Type 0 where
  pub each : (d : ℕ) → (flush ≡ true → d ≢ c) → Begins (s.core d).cached (core d).cached

stay : (s : State) (c : ℕ) (flush : Bool) → GoOn s c flush s.core
stay s c flush = record { each = λ d other. begins_same (s.core d).cached }

puts : (s : State) (c : ℕ) (flush : Bool) (core : ℕ → Core) (k : Core) → (flush ≡ false → Begins (core c).cached k.cached)
    → GoOn s c flush core → GoOn s c flush (put core c k)
puts s c flush core k own on = record {
  each = λ d other. put_all (λ d x. Begins (s.core d).cached x.cached) core c k d
      (λ same. subst (λ n. Begins (s.core n).cached k.cached) (sym same)
      (by_flush flush refl (λ flushing. other flushing same)))
      (λ apart. on.each d other);
}
  where
    by_flush : (b : Bool) → flush ≡ b → (flush ≡ true → ⊥) → Begins (s.core c).cached k.cached
    by_flush true is not = absurd (not is)
    by_flush false is not =
        begins_then (s.core c).cached (core c).cached k.cached (on.each c (λ flushing. absurd (not flushing))) (own is)

kept : (s : State) (c : ℕ) (k : Core) → k.cached ≡ (s.core c).cached → GoOn s c false (put s.core c k)
kept s c k same = puts s c false s.core k
    (λ none. subst (Begins (s.core c).cached) (sym same) (begins_same (s.core c).cached)) (stay s c false)

edit_goes : (c : ℕ) (s : State) (e : Edit) → GoOn s c (is_flush e) (edited c s e).core
edit_goes c s (Switch h q) = kept s c (record (s.core c) { thread = h; tcap = q }) refl
edit_goes c s (Cache t) = puts s c false s.core _ (λ none. begins_caching (s.core c).cached t) (stay s c false)
edit_goes c s Flush = puts s c true s.core (record (s.core c) { cached = [] }) (λ none. absurd (false≢true (sym none))) (stay s c true)
edit_goes c s (Charge n) = kept s c (record (s.core c) { spent = _; owed = _ }) refl
edit_goes c s (Give f m) = kept s c (record (s.core c) { back = _ }) refl
edit_goes c s _ = stay s c false

edits_go : (c : ℕ) (s : State) (es : List Edit) → GoOn s c (flush_in es) (after_edits c s es).core
edits_go c s [] = stay s c false
edits_go c s (e ∷ es) = record {
  each = λ d other. begins_then (s.core d).cached ((edited c s e).core d).cached _
      ((edit_goes c s e).each d (λ is. other (ap (λ b. b || flush_in es) is)))
      ((edits_go c (edited c s e) es).each d (λ is. other (last (is_flush e) (flush_in es) is)));
}
  where
    last : (a b : Bool) → b ≡ true → (a || b) ≡ true
    last true b is = refl
    last false b is = is

module _ (s : State) (c : ℕ) where
  abbrev Keeps : Call → Change → Type 0
  Keeps call change = GoOn s c (flushes_by call) change.next.core

  keeps_by : (call : Call) (v : Value) (es : List Edit) → Edits call c s es → Keeps call (does c s v es)
  keeps_by call v es e = subst (λ b. GoOn s c b (after_edits c s es).core) (sym e.agrees.1) (edits_go c s es)

  changed_keeps : (call : Call) (x : Judged Change) → IfFound x (Keeps call) → GoOn s c (flushes_by call) (changed s x).core
  changed_keeps call (Refused r) by = stay s c (flushes_by call)
  changed_keeps call (Found change) by = by

  counts : (t : State) (flush : Bool) → GoOn s c flush t.core → GoOn s c flush (counted t c).core
  counts t flush on = puts s c flush t.core _ (λ none. begins_same (t.core c).cached) on

  owed_keeps : (call : Call) → GoOn s c false (owed_by s c call).core
  owed_keeps (Tick n) = puts s c false s.core _ (λ none. begins_same (s.core c).cached) (stay s c false)
  owed_keeps _ = stay s c false

  pub decided_keeps : (call : Call) (r : Reply) → GoOn s c (flushes call r) (state_by s c call r).core
  decided_keeps call (Reply.Ok v) = counts (changed s (change_of s c call)) (flushes_by call)
      (changed_keeps call (change_of s c call) (found_by s c call (Keeps call) (keeps_by call)))
  decided_keeps call Reply.CallsSpent = stay s c false
  decided_keeps call Reply.Raced = counts (owed_by s c call) false (owed_keeps call)
  decided_keeps call (Reply.Busy d) = counts (owed_by s c call) false (owed_keeps call)
  decided_keeps call _ = counts s false (stay s c false)
