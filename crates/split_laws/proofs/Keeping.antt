-- States that are one on a region stay so as a core enters a call, is decided alike, flushes or returns; and they stay one, whatever a core
-- outside counts and owes.
use Rattle.world_laws.specs.kernel_rules.proofs.{◌≡◌, ℕ, ◌+◌, ◌<◌, ◌==◌, Bool, true, false, refl, sym, ◌∙◌, ap, subst, if◌then◌else◌, []}
use Rattle.world_laws.specs.kernel_rules.proofs.{false≢true, true≢false, eqb-true, Call, Tick, Flush, Value, Reply, put, Core, Grace, Thing}
use Rattle.world_laws.specs.kernel_rules.proofs.{Limits, with_core, with_grace, begun, entered, passed, returned, flushed, Change, Judged}
use Rattle.world_laws.specs.kernel_rules.proofs.{Refused, Found, change_of, changed, counted, owed_by, state_by, decided_stays}
use Rattle.same_changes.specs.{IsIn, AgreeOn, AgreeOutcome}
use Rattle.same_changes.proofs.Agreeing.{agree_by, agree_then, agree_begun}
use Rattle.{same_changes.specs.seq_state.specs.State, same_changes.specs.seq_state.specs.SameGrace, same_changes.specs.Region.Region}

grace_back : (n : ℕ) (g h : Grace) → SameGrace n g h → SameGrace n h g
grace_back n g h a = record {
  waits = λ c l. sym (a.waits c l);
  not_passed = λ c l. sym (a.not_passed c l);
  unflushed = λ c l. sym (a.unflushed c l);
  flush_unknown = λ c l. sym (a.flush_unknown c l);
}

pub agree_back : {w : Region} (t s : State) → AgreeOn w t s → AgreeOn w s t
agree_back t s a =
    let cores : s.limits.cores ≡ t.limits.cores = ap (λ (l : Limits). l.cores) (sym a.limits) in
    record {
      limits = sym a.limits;
      place = λ f i is small. sym (a.place f i is small);
      frame = λ f is. sym (a.frame f is);
      number = λ l is. sym (a.number l is);
      core = λ c is. sym (a.core c is);
      inside = λ c less. sym (a.inside c (subst (λ n. c < n) (sym cores) less));
      grace = λ x is. subst (λ n. SameGrace n (s.grace x) (t.grace x)) cores
          (grace_back s.limits.cores (t.grace x) (s.grace x) (a.grace x is));
    }

-- What holds of two values of `put` follows from what holds of those that they are made of.
pub put_pair : {A : Type 0} (P : A → A → Type 0) (f g : ℕ → A) (i : ℕ) (x y : A) (j : ℕ) → (j ≡ i → P x y) → P (f j) (g j)
    → P (put f i x j) (put g i y j)
put_pair P f g i x y j here there = by_test (j == i) refl
  where
    by_test : (b : Bool) → (j == i) ≡ b → P (if b then x else f j) (if b then y else g j)
    by_test true is = here (eqb-true j i is)
    by_test false is = there

-- ---- one core changes, and grace periods

core_agrees : {w : Region} (t s : State) (c : ℕ) (j k : Core) → AgreeOn w t s → (w.core c ≡ true → j ≡ k)
    → (c < s.limits.cores → j.inside ≡ k.inside) → AgreeOn w (with_core t c j) (with_core s c k)
core_agrees {w} t s c j k a same inside = record {
  limits = a.limits;
  place = a.place;
  frame = a.frame;
  number = a.number;
  core = λ d is. put_pair (λ x y. x ≡ y) t.core s.core c j k d (λ here. same (subst (λ e. w.core e ≡ true) here is)) (a.core d is);
  inside = λ d less. put_pair (λ (x y : Core). x.inside ≡ y.inside) t.core s.core c j k d
      (λ here. inside (subst (λ e. e < s.limits.cores) here less)) (a.inside d less);
  grace = a.grace;
}

grace_agrees : {w : Region} (t s : State) (g h : Thing → Grace) → AgreeOn w t s
    → ((x : Thing) → IsIn w x → SameGrace s.limits.cores (g x) (h x)) → AgreeOn w (with_grace t g) (with_grace s h)
grace_agrees t s g h a same = record {
  limits = a.limits;
  place = a.place;
  frame = a.frame;
  number = a.number;
  core = a.core;
  inside = a.inside;
  grace = same;
}

passed_agrees : (n c : ℕ) → c < n → (g h : Grace) → SameGrace n g h → SameGrace n (passed c g) (passed c h)
passed_agrees n c below g h e = record {
  waits = λ d less. ap (λ b. if d == c then false else b) (e.waits d less);
  not_passed = λ d less. by_test g.not_passed h.not_passed d (g.waits c) (h.waits c) (e.waits c below) (e.not_passed d less);
  unflushed = e.unflushed;
  flush_unknown = λ d less.
      by_test g.flush_unknown h.flush_unknown d (g.unflushed c) (h.unflushed c) (e.unflushed c below) (e.flush_unknown d less);
}
  where
    by_test : (p q : ℕ → Bool) (d : ℕ) (a b : Bool) → a ≡ b → p d ≡ q d → (if a then p else put p c false) d
        ≡ (if b then q else put q c false) d
    by_test p q d true true same here = here
    by_test p q d false false same here = ap (λ b. if d == c then false else b) here
    by_test p q d true false same here = absurd (true≢false same)
    by_test p q d false true same here = absurd (false≢true same)

-- ---- events

pub entered_agree : {w : Region} (t s : State) (c : ℕ) → AgreeOn w t s → AgreeOn w (entered t c) (entered s c)
entered_agree t s c a = core_agrees t s c _ _ a (λ is. ap (λ (k : Core). record k { inside = true }) (a.core c is)) (λ less. refl)

pub returned_agree : {w : Region} (t s : State) (c : ℕ) → c < s.limits.cores → AgreeOn w t s → AgreeOn w (returned t c) (returned s c)
returned_agree t s c below a = grace_agrees _ _ _ _
    (core_agrees t s c _ _ a (λ is. ap (λ (k : Core). record k { inside = false }) (a.core c is)) (λ less. refl))
    (λ x is. passed_agrees s.limits.cores c below (t.grace x) (s.grace x) (a.grace x is))

flushed_agree : {w : Region} (t s : State) (c : ℕ) → AgreeOn w t s → AgreeOn w (flushed t c) (flushed s c)
flushed_agree t s c a = grace_agrees _ _ _ _
    (core_agrees t s c _ _ a (λ is. ap (λ (k : Core). record k { cached = [] }) (a.core c is)) (a.inside c))
    (λ x is. let g = a.grace x is in record {
      waits = g.waits;
      not_passed = g.not_passed;
      unflushed = λ d less. ap (λ b. if d == c then false else b) (g.unflushed d less);
      flush_unknown = g.flush_unknown;
    })

counted_agree : {w : Region} (t s : State) (c : ℕ) → AgreeOn w t s → AgreeOn w (counted t c) (counted s c)
counted_agree t s c a = core_agrees t s c _ _ a (λ is. ap (λ (k : Core). record k { counted = k.counted + 1 }) (a.core c is)) (a.inside c)

owed_agree : {w : Region} (t s : State) (c : ℕ) (call : Call) → AgreeOn w t s → AgreeOn w (owed_by t c call) (owed_by s c call)
owed_agree t s c (Tick n) a = core_agrees t s c _ _ a (λ is. ap (λ (k : Core). record k { owed = k.owed + n }) (a.core c is)) (a.inside c)
owed_agree t s c _ a = a

-- The same decision of a core, whose call has one outcome on the region.
pub decided_agree : {w : Region} (t s : State) (c : ℕ) (call : Call) (r : Reply) → AgreeOn w t s
    → AgreeOutcome w (change_of t c call) (change_of s c call) → AgreeOn w (state_by t c call r) (state_by s c call r)
decided_agree {w} t s c call (Reply.Ok v) a same =
    counted_agree _ _ c (by_outcome (change_of t c call) (change_of s c call) same (decided_stays s c call (Reply.Ok v)).limits)
  where
    by_outcome : (x y : Judged Change) → AgreeOutcome w x y → (changed s y).limits ≡ s.limits → AgreeOn w (changed t x) (changed s y)
    by_outcome (Refused r) (Refused q) same limits = a
    by_outcome (Found x) (Found y) same limits =
        subst (λ xs. AgreeOn w (begun t xs x.next) (begun s y.begins y.next)) (sym same.begins)
        (agree_begun t s x.next y.next y.begins a same.next limits)
    by_outcome (Refused r) (Found y) same limits = absurd same
    by_outcome (Found x) (Refused q) same limits = absurd same
decided_agree t s c call Reply.CallsSpent a same = a
decided_agree t s c call Reply.Raced a same = counted_agree _ _ c (owed_agree t s c call a)
decided_agree t s c call (Reply.Busy d) a same = counted_agree _ _ c (owed_agree t s c call a)
decided_agree t s c call _ a same = counted_agree t s c a

-- A flush that is carried out in both.
pub flush_agree : {w : Region} (t s : State) (c : ℕ) (v : Value) → AgreeOn w t s
    → AgreeOn w (state_by t c Flush (Reply.Ok v)) (state_by s c Flush (Reply.Ok v))
flush_agree t s c v a =
    let f = flushed_agree t s c a in
    counted_agree _ _ c (grace_agrees (flushed t c) (flushed s c) _ _ f f.grace)

-- ---- a core outside

core_apart : {w : Region} (t : State) (c : ℕ) (k : Core) → w.core c ≡ false → k.inside ≡ (t.core c).inside → AgreeOn w (with_core t c k) t
core_apart {w} t c k out inside =
    let same = agree_by {w = w} t t refl in
    record {
      limits = refl;
      place = same.place;
      frame = same.frame;
      number = same.number;
      core = λ d is. one t.core d (λ here. absurd (false≢true (sym out ∙ subst (λ e. w.core e ≡ true) here is)));
      inside = λ d less. two d;
      grace = same.grace;
    }
  where
    one : (f : ℕ → Core) (d : ℕ) → (d ≡ c → k ≡ f d) → put f c k d ≡ f d
    one f d here = by_test (d == c) refl
      where
        by_test : (b : Bool) → (d == c) ≡ b → (if b then k else f d) ≡ f d
        by_test true is = here (eqb-true d c is)
        by_test false is = refl

    two : (d : ℕ) → (put t.core c k d).inside ≡ (t.core d).inside
    two d = by_test (d == c) refl
      where
        by_test : (b : Bool) → (d == c) ≡ b → (if b then k else t.core d).inside ≡ (t.core d).inside
        by_test true is = inside ∙ ap (λ e. (t.core e).inside) (sym (eqb-true d c is))
        by_test false is = refl

pub counted_apart : {w : Region} (t : State) (c : ℕ) → w.core c ≡ false → AgreeOn w (counted t c) t
counted_apart t c out = core_apart t c _ out refl

pub owed_apart : {w : Region} (t : State) (c : ℕ) (call : Call) → w.core c ≡ false → AgreeOn w (owed_by t c call) t
owed_apart t c (Tick n) out = core_apart t c _ out refl
owed_apart t c _ out = agree_by t t refl

pub raced_apart : {w : Region} (t : State) (c : ℕ) (call : Call) → w.core c ≡ false → AgreeOn w (state_by t c call Reply.Raced) t
raced_apart t c call out = agree_then _ (owed_by t c call) t (counted_apart (owed_by t c call) c out) (owed_apart t c call out)
