-- An edit comes to the same on a region in two states that are one there, and so does a list of edits.
use Rattle.kernel_laws.specs.kernel_rules.proofs as low
use low.{◌≡◌, ℕ, ◌+◌, ◌-◌, ◌==◌, Bool, true, false, refl, sym, ◌∙◌, ap, subst, if◌then◌else◌, min, List, [], ◌∷◌, ◌++◌, take, drop, Option}
use low.{Some, None, Call, Value, Free, Holds, Quiescing, ThreadFields, Comp, Untyped, Kernel, Live, Dead, Core, Thing, FrameOf, NumberOf}
use low.{with_frame, with_core, with_grace, thread_in, tcap_in, thread_of, no_grace, frame_names, number_names, same_thing, flushed}
use low.{is_place_of, cleared, with_thread, with_stack, running, switched, caching, tcap_at, with_tcap, with_budget, with_qualities, charge}
use low.{moved, frames_of, Edit, Fill, Node, Become, Untype, Component, Deaden, Push, Pop, Cache, Charge, Move, Merge, Give, edited}
use low.{after_edits, begins_all, does}
use Rattle.kernel_laws.proofs.{State, AreLater, Edits}
use Rattle.seq_lookups.specs.seq_state.proofs.{SameGrace, same_grace_by}
use Rattle.kernel_laws.specs.kernel_rules.specs.Edits.{charging, given_back, Remove, Switch, Flush, begins_in}
use Rattle.same_changes.specs.Region.{Region, AgreeOn, AgreeChange}
use Rattle.same_changes.proofs.Agreeing.{agree_by, agree_then, agree_place, agree_frame, agree_number, agree_core}
use Rattle.same_changes.proofs.Reaching.{TwinsOn, core_agree, thread_frame_agree, tcap_frame_agree, thread_agree}

-- What an edit looks up, but what is its core's own, is in a region.
abbrev pub EditIn : Region → Edit → Type 0
EditIn r (Untype f) = r.frame f ≡ true
EditIn r (Deaden l e) = r.number l ≡ true
EditIn r (Switch h q) = r.frame h ≡ true
EditIn r (Move a b m) = (r.frame a ≡ true) × (r.frame b ≡ true)
EditIn r (Merge f qs) = r.frame f ≡ true
EditIn r (Give f m) = r.frame f ≡ true
EditIn r _ = Unit {0}

-- And so for each edit of a list.
abbrev pub EditsIn : Region → List Edit → Type 0
EditsIn r [] = Unit {0}
EditsIn r (e ∷ es) = EditIn r e × EditsIn r es

-- ---- states

cleared_agree : {r : Region} (t s : State) (f : ℕ) → AgreeOn r t s → AgreeOn r (cleared t f) (cleared s f)
cleared_agree t s f e = record {
  limits = e.limits;
  place = λ g i is small. by_node (g == f) i (e.place g i is small);
  frame = e.frame;
  number = e.number;
  core = e.core;
  inside = e.inside;
  grace = λ x is. by_thing (is_place_of f x) x (e.grace x is);
}
  where
    by_node : (b : Bool) → {g : ℕ} (i : ℕ) → t.place g i ≡ s.place g i
        → (if b then (λ i. Free) else t.place g) i ≡ (if b then (λ i. Free) else s.place g) i
    by_node true i same = refl
    by_node false i same = same

    by_thing : (b : Bool) (x : Thing) → SameGrace s.limits.cores (t.grace x) (s.grace x)
        → SameGrace s.limits.cores (if b then no_grace else t.grace x) (if b then no_grace else s.grace x)
    by_thing true x same = same_grace_by s.limits.cores no_grace no_grace refl
    by_thing false x same = same

emptied_agree : {r : Region} (t s : State) (f : ℕ) → AgreeOn r t s
    → AgreeOn r (with_grace (with_frame t f Untyped) (λ x. if same_thing x (FrameOf f) then no_grace else t.grace x))
    (with_grace (with_frame s f Untyped) (λ x. if same_thing x (FrameOf f) then no_grace else s.grace x))
emptied_agree {r} t s f e =
    let frames : AgreeOn r (with_frame t f Untyped) (with_frame s f Untyped) = agree_frame t s f Untyped e in
    record {
      limits = e.limits;
      place = e.place;
      frame = frames.frame;
      number = e.number;
      core = e.core;
      inside = e.inside;
      grace = λ x is. by_thing (same_thing x (FrameOf f)) x (e.grace x is);
    }
  where
    by_thing : (b : Bool) (x : Thing) → SameGrace s.limits.cores (t.grace x) (s.grace x)
        → SameGrace s.limits.cores (if b then no_grace else t.grace x) (if b then no_grace else s.grace x)
    by_thing true x same = same_grace_by s.limits.cores no_grace no_grace refl
    by_thing false x same = same

running_agree : {r : Region} (t s : State) (f : ℕ) (core : Option ℕ) → r.frame f ≡ true → AgreeOn r t s
    → AgreeOn r (running t f core) (running s f core)
running_agree t s f core is e =
    agree_then _ _ _
    (agree_by _ _ (ap (λ x. with_frame t f (with_thread x (record (thread_in x) { runs_on = core }))) (e.frame f is)))
    (agree_frame t s f (with_thread (s.frame f) (record (thread_in (s.frame f)) { runs_on = core })) e)

budget_agree : {r : Region} (t s : State) (f n m : ℕ) → r.frame f ≡ true → n ≡ m → AgreeOn r t s
    → AgreeOn r (with_budget t f n) (with_budget s f m)
budget_agree t s f n m is same e =
    agree_then _ _ _
    (agree_by _ _ (λ i. with_frame t f (with_tcap (e.frame f is i) (record (tcap_in (e.frame f is i)) { budget = same i }))))
    (agree_frame t s f (with_tcap (s.frame f) (record (tcap_in (s.frame f)) { budget = m })) e)

moved_agree : {r : Region} (t s : State) (a b m : ℕ) → r.frame a ≡ true → r.frame b ≡ true → AgreeOn r t s
    → AgreeOn r (moved t a b m) (moved s a b m)
moved_agree t s a b m one other e =
    budget_agree _ _ b _ _ other (ap (λ x. (tcap_in x).budget + m) (e.frame b other))
    (budget_agree t s a _ _ one (ap (λ x. (tcap_in x).budget - m) (e.frame a one)) e)

list_agree : {r : Region} (t s : State) (f : ℕ) (xs : List (ℕ × ℕ)) → r.frame f ≡ true → AgreeOn r t s
    → AgreeOn r (with_qualities t f xs) (with_qualities s f xs)
list_agree t s f xs is e =
    agree_then _ _ _
    (agree_by _ _ (λ i. with_frame t f (with_tcap (e.frame f is i) (record (tcap_in (e.frame f is i)) { qualities = xs }))))
    (agree_frame t s f (with_tcap (s.frame f) (record (tcap_in (s.frame f)) { qualities = xs })) e)

module _ {r : Region} {t s : State} {o : ℕ → Bool} {c : ℕ} (w : TwinsOn r t s o c) where
  stack_agree : (xs ys : List ℕ) → xs ≡ ys → AgreeOn r (with_stack t c xs) (with_stack s c ys)
  stack_agree xs ys e =
      agree_then _ _ _
      (agree_by _ _ (λ i. with_frame t (core_agree w i).thread
      (with_thread (thread_frame_agree w i) (record (thread_agree w i) { stack = e i }))))
      (agree_frame t s (s.core c).thread (with_thread (s.frame (s.core c).thread) (record (thread_of s c) { stack = ys })) w.agree)

  -- The core is another one by a function of what it was.
  own_agree : (by : Core → Core) → AgreeOn r (with_core t c (by (t.core c))) (with_core s c (by (s.core c)))
  own_agree by = agree_then _ _ _
      (agree_by _ _ (ap (λ (k : Core). with_core t c (by k)) (core_agree w)))
      (agree_core t s c (by (s.core c)) w.agree)

  flushed_agree : AgreeOn r (flushed t c) (flushed s c)
  flushed_agree =
      let cores : AgreeOn r (with_core t c (record (t.core c) { cached = [] })) (with_core s c (record (s.core c) { cached = [] })) =
      agree_then _ _ _ (agree_by _ _ (ap (λ (k : Core). with_core t c (record k { cached = [] })) (core_agree w)))
      (agree_core t s c (record (s.core c) { cached = [] }) w.agree) in
      record {
        limits = w.agree.limits;
        place = w.agree.place;
        frame = w.agree.frame;
        number = w.agree.number;
        core = cores.core;
        inside = cores.inside;
        grace = λ x is. let g = w.agree.grace x is in record {
          waits = g.waits;
          not_passed = g.not_passed;
          unflushed = λ d less. ap (λ b. if d == c then false else b) (g.unflushed d less);
          flush_unknown = g.flush_unknown;
        };
      }

  switched_agree : (h q : ℕ) → r.frame h ≡ true → AgreeOn r (switched t c h q) (switched s c h q)
  switched_agree h q is =
      subst (λ (k : Core). AgreeOn r (with_core (running (running t k.thread None) h (Some c)) c (record k { thread = h; tcap = q }))
      (switched s c h q)) (sym (core_agree w))
      (agree_core _ _ c (record (s.core c) { thread = h; tcap = q })
      (running_agree _ _ h (Some c) is (running_agree t s (s.core c).thread None w.within.thread w.agree)))

  charging_agree : (due n : ℕ) → AgreeOn r (charging t c due n) (charging s c due n)
  charging_agree due n =
      let core = s.core c in
      agree_then _ _ _
      (agree_by _ _ (λ i. with_core (with_budget t (core_agree w i).tcap ((tcap_at t (core_agree w i).tcap).budget - n)) c
      (record (core_agree w i) { spent = (core_agree w i).spent + n; owed = due - n })))
      (agree_core _ _ c (record core { spent = core.spent + n; owed = due - n })
      (budget_agree t s core.tcap _ _ w.within.tcap
      (ap (λ x. (tcap_in x).budget - n) (w.agree.frame core.tcap w.within.tcap)) w.agree))

  -- What is charged is the same.
  pub charge_agree : (n : ℕ) → charge t c (n + (t.core c).owed) ≡ charge s c (n + (s.core c).owed)
  charge_agree n = λ i. min (n + (core_agree w i).owed) (tcap_in (tcap_frame_agree w i)).budget

  given_agree : (f m : ℕ) → r.frame f ≡ true → AgreeOn r (given_back t c f m) (given_back s c f m)
  given_agree f m is =
      agree_then _ _ _
      (agree_by _ _ (λ i. with_core (with_budget t f ((tcap_at t f).budget + m)) c
      (record (core_agree w i) { back = (core_agree w i).back + m })))
      (agree_core _ _ c (record (s.core c) { back = (s.core c).back + m })
      (budget_agree t s f _ _ is (ap (λ x. (tcap_in x).budget + m) (w.agree.frame f is)) w.agree))

  -- ---- edits

  edit_agree : (e : Edit) → EditIn r e → AgreeOn r (edited c t e) (edited c s e)
  edit_agree (Fill at k) is = agree_place t s at.node at.index (Holds k) w.agree
  edit_agree (Remove at k) is = agree_place t s at.node at.index (Quiescing k) w.agree
  edit_agree (Node f object) is = agree_frame _ _ f (Kernel object) (cleared_agree t s f w.agree)
  edit_agree (Become f x) is = agree_frame t s f x w.agree
  edit_agree (Untype f) is = emptied_agree t s f w.agree
  edit_agree (Component f k) is = agree_frame _ _ f (Kernel (Comp k)) (agree_number t s k.number (Live k.epoch f) w.agree)
  edit_agree (Deaden l e) is = agree_number t s l (Dead e) w.agree
  edit_agree (Push f) is = stack_agree _ _ (ap (λ (k : ThreadFields). f ∷ k.stack) (thread_agree w))
  edit_agree Pop is = stack_agree _ _ (ap (λ (k : ThreadFields). drop 1 k.stack) (thread_agree w))
  edit_agree (Switch h q) is = switched_agree h q is
  edit_agree (Cache x) is = own_agree (λ k. record k { cached = caching k.cached x })
  edit_agree Flush is = flushed_agree
  edit_agree (Charge n) is =
      let due : n + (t.core c).owed ≡ n + (s.core c).owed = ap (λ (k : Core). n + k.owed) (core_agree w) in
      subst (λ x. AgreeOn r x (edited c s (Charge n))) (λ i. charging t c (sym due i) (sym (charge_agree n) i))
      (charging_agree (n + (s.core c).owed) (charge s c (n + (s.core c).owed)))
  edit_agree (Move a b m) is = moved_agree t s a b m is.0 is.1 w.agree
  edit_agree (Merge f qs) is = list_agree t s f qs is w.agree
  edit_agree (Give f m) is = given_agree f m is

  begins_agree : (e : Edit) → EditIn r e → begins_in c t e ≡ begins_in c s e
  begins_agree (Untype f) is = ap (λ x. frames_of (frame_names x)) (w.agree.frame f is)
  begins_agree (Deaden l e) is = ap (λ n. NumberOf l ∷ frames_of (number_names n)) (w.agree.number l is)
  begins_agree Pop is = ap (λ (k : ThreadFields). frames_of (take 1 k.stack)) (thread_agree w)
  begins_agree (Switch h q) is =
      ap (λ (k : Core). frames_of (k.thread ∷ (if q == k.tcap then [] else k.tcap ∷ []))) (core_agree w)
  begins_agree _ is = refl

-- Edits after the first, which begin no grace period.
later_agree : {r : Region} (c : ℕ) (t s : State) (es : List Edit) → AreLater es → EditsIn r es → AgreeOn r t s
    → AgreeOn r (after_edits c t es) (after_edits c s es)
later_agree c t s [] later is e = e
later_agree c t s (Fill at k ∷ es) later is e =
    later_agree c (edited c t (Fill at k)) (edited c s (Fill at k)) es later is.1 (agree_place t s at.node at.index (Holds k) e)
later_agree c t s (Merge f qs ∷ es) later is e =
    later_agree c (edited c t (Merge f qs)) (edited c s (Merge f qs)) es later is.1 (list_agree t s f qs is.0 e)
later_agree c t s (_ ∷ es) later is e = absurd later

later_begins : (c : ℕ) (s : State) (es : List Edit) → AreLater es → begins_all c s es ≡ []
later_begins c s [] later = refl
later_begins c s (Fill at k ∷ es) later = ap (λ xs. xs ++ []) (later_begins c (edited c s (Fill at k)) es later)
later_begins c s (Merge f qs ∷ es) later = ap (λ xs. xs ++ []) (later_begins c (edited c s (Merge f qs)) es later)
later_begins c s (_ ∷ es) later = absurd later

-- What a call does comes to the same.
pub does_agree : {r : Region} {t s : State} {o : ℕ → Bool} {c : ℕ} → TwinsOn r t s o c → (call : Call) (v : Value) (es : List Edit)
    → Edits call c s es → EditsIn r es → AgreeChange r (does c t v es) (does c s v es)
does_agree w call v [] e is = record { value = refl; next = w.agree; begins = refl }
does_agree {t = t} {s = s} {c = c} w call v (x ∷ es) e is = record {
  value = refl;
  next = later_agree c (edited c t x) (edited c s x) es e.calm.2 is.1 (edit_agree w x is.0);
  begins = ap (λ xs. xs ++ begins_in c t x) (later_begins c (edited c t x) es e.calm.2) ∙ begins_agree w x is.0 ∙ sym e.calm.0;
}
