-- What an edit changes of the parts of a state is what its core may change.
use Rattle.state_laws.specs.kernel_laws.proofs as low
use low.{◌≡◌, ◌⊎◌, inl, inr, ℕ, ◌+◌, ◌-◌, false, refl, sym, ◌∙◌, ap, subst, IsTrue, List, [], ◌∷◌, drop, Some, None, false≢true, Call}
use low.{Place, Free, Holds, Quiescing, ThreadFields, TcapFields, Blank, Comp, Thread, Tcap, Frame, Untyped, Kernel, Liveness, Live, Dead}
use low.{Grace, Thing, Core, State, put, with_place, with_frame, with_core, with_grace, thread_in, thread_of, tcap_in, Slot, only, fits}
use low.{is_live, with_thread, running, tcap_at, with_tcap, with_budget, charge, Edit, Fill, Node, Become, Untype, Component, Deaden, Push}
use low.{Pop, Cache, Charge, Move, Merge, Give, edited, after_edits, put_all, only_is, place_all, is_bare, AreLater, Calm, Kind}
use Rattle.authority_laws.specs.{PlaceIs, FrameIs, StackIs, RunsIs, BudgetIs, ListIs, NumberIs, CoreIs, bare_of, Part, Over, IsUnderOne}
use Rattle.authority_laws.specs.{OwnBy, Stays}
use Rattle.state_laws.specs.kernel_rules.specs.Edits.{Remove, Switch, Flush}
use Rattle.authority_laws.specs.Authority.{is_of_stack, is_of_thread, is_of_budget}
use Rattle.authority_laws.proofs.Acts.{LedTo, InRange, InNode, By, EachBy}

-- Core c may change this part by a call.
abbrev pub MayBy : Call → State → ℕ → Part → Type 0
MayBy call s c x = OwnBy call s c x ⊎ IsUnderOne call s c x

-- From x to y the frame g keeps its kind, and its fields but for those that core c may change.
record KeptAt (call : Call) (s : State) (c g : ℕ) (x y : Frame) : Type 0 where
  bare : bare_of y ≡ bare_of x
  stack : ((thread_in y).stack ≡ (thread_in x).stack) ⊎ MayBy call s c (StackIs g)
  runs : ((thread_in y).runs_on ≡ (thread_in x).runs_on) ⊎ MayBy call s c (RunsIs g)
  budget : ((tcap_in y).budget ≡ (tcap_in x).budget) ⊎ MayBy call s c (BudgetIs g)
  list : ((tcap_in y).qualities ≡ (tcap_in x).qualities) ⊎ MayBy call s c (ListIs g)

-- Each part of the frame g is the same in x and y, or core c may change it.
pub record FieldsAt (call : Call) (s : State) (c g : ℕ) (x y : Frame) : Type 0 where
  pub bare : (bare_of y ≡ bare_of x) ⊎ MayBy call s c (FrameIs g)
  pub stack : (Stays Kind.Thread x y → (thread_in y).stack ≡ (thread_in x).stack) ⊎ MayBy call s c (StackIs g)
  pub runs : (Stays Kind.Thread x y → (thread_in y).runs_on ≡ (thread_in x).runs_on) ⊎ MayBy call s c (RunsIs g)
  pub budget : (Stays Kind.Tcap x y → (tcap_in y).budget ≡ (tcap_in x).budget) ⊎ MayBy call s c (BudgetIs g)
  pub list : (Stays Kind.Tcap x y → (tcap_in y).qualities ≡ (tcap_in x).qualities) ⊎ MayBy call s c (ListIs g)

-- Each part is the same in s and t, or core c may change it.
pub record Within (call : Call) (s : State) (c : ℕ) (t : State) : Type 0 where
  pub fields : (g : ℕ) → FieldsAt call s c g (s.frame g) (t.frame g)
  pub place : (f i : ℕ) → (t.place f i ≡ s.place f i) ⊎ MayBy call s c (PlaceIs f i)
  pub number : (l : ℕ) → (t.number l ≡ s.number l) ⊎ MayBy call s c (NumberIs l)
  pub core : (d : ℕ) → (t.core d ≡ s.core d) ⊎ MayBy call s c (CoreIs d)

-- ---- frames

-- Frames of one kind both have a thread, or neither; so with a temporal capability.
thread_fit : (x : Frame) → fits Kind.Thread (bare_of x) ≡ fits Kind.Thread x
thread_fit (Kernel (Thread t)) = refl
thread_fit (Kernel (Tcap q)) = refl
thread_fit _ = refl

tcap_fit : (x : Frame) → fits Kind.Tcap (bare_of x) ≡ fits Kind.Tcap x
tcap_fit (Kernel (Thread t)) = refl
tcap_fit (Kernel (Tcap q)) = refl
tcap_fit _ = refl

thread_back : (y z : Frame) → bare_of z ≡ bare_of y → IsTrue (fits Kind.Thread z) → IsTrue (fits Kind.Thread y)
thread_back y z e h = sym (thread_fit y) ∙ ap (fits Kind.Thread) (sym e) ∙ thread_fit z ∙ h

tcap_back : (y z : Frame) → bare_of z ≡ bare_of y → IsTrue (fits Kind.Tcap z) → IsTrue (fits Kind.Tcap y)
tcap_back y z e h = sym (tcap_fit y) ∙ ap (fits Kind.Tcap) (sym e) ∙ tcap_fit z ∙ h

no_thread : (x : Frame) → IsTrue (is_bare x) → IsTrue (fits Kind.Thread x) → ⊥
no_thread (Kernel Blank) b h = false≢true h
no_thread Untyped b h = false≢true h
no_thread _ b h = false≢true b

no_tcap : (x : Frame) → IsTrue (is_bare x) → IsTrue (fits Kind.Tcap x) → ⊥
no_tcap (Kernel Blank) b h = false≢true h
no_tcap Untyped b h = false≢true h
no_tcap _ b h = false≢true b

-- One change of a field after another.
field_then : {A S T May : Type 0} {x y z : A} → (T → S) → (S → y ≡ x) ⊎ May → (z ≡ y) ⊎ May → (T → z ≡ x) ⊎ May
field_then back (inr m) b = inr m
field_then back (inl f) (inr m) = inr m
field_then back (inl f) (inl e) = inl (λ t. e ∙ f (back t))

bare_then : {May : Type 0} {x y z : Frame} → (y ≡ x) ⊎ May → z ≡ y → (z ≡ x) ⊎ May
bare_then (inl e) f = inl (f ∙ e)
bare_then (inr m) f = inr m

module _ (call : Call) (s : State) (c : ℕ) where
  -- ---- what may be changed by what

  node_may : (f i : ℕ) → InNode call s c f → MayBy call s c (PlaceIs f i)
  node_may f i n = inr (record { cap = n.root; may = n.may; over = by_kind n.kind })
    where
      by_kind : (n.root.kind ≡ Kind.Table) ⊎ (n.root.kind ≡ Kind.Pages) → Over s c n.root.kind n.root (PlaceIs f i)
      by_kind (inl is) = subst (λ k. Over s c k n.root (PlaceIs f i)) (sym is) n.under
      by_kind (inr is) = subst (λ k. Over s c k n.root (PlaceIs f i)) (sym is) n.under

  range_may : (f : ℕ) → InRange call s c f → MayBy call s c (FrameIs f)
  range_may f r = inr (record { cap = r.range; may = r.may; over = subst (λ k. Over s c k r.range (FrameIs f)) (sym r.kind) r.has })

  range_place : (f i : ℕ) → InRange call s c f → MayBy call s c (PlaceIs f i)
  range_place f i r = inr (record { cap = r.range; may = r.may; over = subst (λ k. Over s c k r.range (PlaceIs f i)) (sym r.kind) r.has })

  range_number : (f l : ℕ) → InRange call s c f → is_live (s.number l) ≡ false → MayBy call s c (NumberIs l)
  range_number f l r none =
      inr (record { cap = r.range; may = r.may; over = subst (λ k. Over s c k r.range (NumberIs l)) (sym r.kind) none })

  thread_may : (h : ℕ) → LedTo call s c (only Kind.Thread) h → MayBy call s c (RunsIs h)
  thread_may h l =
      inr (record {
        cap = l.cap;
        may = l.may;
        over = subst (λ k. Over s c k l.cap (RunsIs h)) (sym (only_is Kind.Thread l.cap.kind l.kind)) (sym l.frame);
      })

  budget_may : (q : ℕ) → LedTo call s c (only Kind.Tcap) q → MayBy call s c (BudgetIs q)
  budget_may q l =
      inr (record {
        cap = l.cap;
        may = l.may;
        over = subst (λ k. Over s c k l.cap (BudgetIs q)) (sym (only_is Kind.Tcap l.cap.kind l.kind)) (sym l.frame);
      })

  list_may : (q : ℕ) → LedTo call s c (only Kind.Tcap) q → MayBy call s c (ListIs q)
  list_may q l =
      inr (record {
        cap = l.cap;
        may = l.may;
        over = subst (λ k. Over s c k l.cap (ListIs q)) (sym (only_is Kind.Tcap l.cap.kind l.kind)) (sym l.frame);
      })

  -- ---- frames

  kept_same : (g : ℕ) (x : Frame) → KeptAt call s c g x x
  kept_same g x = record { bare = refl; stack = inl refl; runs = inl refl; budget = inl refl; list = inl refl }

  fields_same : (g : ℕ) (x : Frame) → FieldsAt call s c g x x
  fields_same g x = record {
    bare = inl refl;
    stack = inl (λ stays. refl);
    runs = inl (λ stays. refl);
    budget = inl (λ stays. refl);
    list = inl (λ stays. refl);
  }

  fields_then : (g : ℕ) (x y z : Frame) → FieldsAt call s c g x y → KeptAt call s c g y z → FieldsAt call s c g x z
  fields_then g x y z a k = record {
    bare = bare_then a.bare k.bare;
    stack = field_then (λ stays. (stays.0, thread_back y z k.bare stays.1)) a.stack k.stack;
    runs = field_then (λ stays. (stays.0, thread_back y z k.bare stays.1)) a.runs k.runs;
    budget = field_then (λ stays. (stays.0, tcap_back y z k.bare stays.1)) a.budget k.budget;
    list = field_then (λ stays. (stays.0, tcap_back y z k.bare stays.1)) a.list k.list;
  }

  -- a frame that had no object
  fields_fresh : (f : ℕ) (y : Frame) → InRange call s c f → IsTrue (is_bare (s.frame f)) → FieldsAt call s c f (s.frame f) y
  fields_fresh f y range bare = record {
    bare = inr (range_may f range);
    stack = inl (λ stays. absurd (no_thread (s.frame f) bare stays.0));
    runs = inl (λ stays. absurd (no_thread (s.frame f) bare stays.0));
    budget = inl (λ stays. absurd (no_tcap (s.frame f) bare stays.0));
    list = inl (λ stays. absurd (no_tcap (s.frame f) bare stays.0));
  }

  fields_untyped : (f : ℕ) → InRange call s c f → FieldsAt call s c f (s.frame f) Untyped
  fields_untyped f range = record {
    bare = inr (range_may f range);
    stack = inl (λ stays. absurd (false≢true stays.1));
    runs = inl (λ stays. absurd (false≢true stays.1));
    budget = inl (λ stays. absurd (false≢true stays.1));
    list = inl (λ stays. absurd (false≢true stays.1));
  }

  -- another thread, or temporal capability, in place of the one
  kept_thread : (g : ℕ) (x : Frame) (t : ThreadFields) → (t.stack ≡ (thread_in x).stack) ⊎ MayBy call s c (StackIs g)
      → (t.runs_on ≡ (thread_in x).runs_on) ⊎ MayBy call s c (RunsIs g) → KeptAt call s c g x (with_thread x t)
  kept_thread g (Kernel (Thread u)) t a b = record { bare = refl; stack = a; runs = b; budget = inl refl; list = inl refl }
  kept_thread g _ t a b = record { bare = refl; stack = inl refl; runs = inl refl; budget = inl refl; list = inl refl }

  kept_tcap : (g : ℕ) (x : Frame) (q : TcapFields) → (q.budget ≡ (tcap_in x).budget) ⊎ MayBy call s c (BudgetIs g)
      → (q.qualities ≡ (tcap_in x).qualities) ⊎ MayBy call s c (ListIs g) → KeptAt call s c g x (with_tcap x q)
  kept_tcap g (Kernel (Tcap p)) q a b = record { bare = refl; stack = inl refl; runs = inl refl; budget = a; list = b }
  kept_tcap g _ q a b = record { bare = refl; stack = inl refl; runs = inl refl; budget = inl refl; list = inl refl }

  -- ---- states

  pub within_same : Within call s c s
  within_same = record {
    fields = λ g. fields_same g (s.frame g);
    place = λ f i. inl refl;
    number = λ l. inl refl;
    core = λ d. inl refl;
  }

  pub within_core : (t : State) (k : Core) → Within call s c t → Within call s c (with_core t c k)
  within_core t k w = record {
    fields = w.fields;
    place = w.place;
    number = w.number;
    core = λ d. put_all (λ d x. (x ≡ s.core d) ⊎ MayBy call s c (CoreIs d)) t.core c k d (λ same. inr (inl same)) (λ other. w.core d);
  }

  pub within_grace : (t : State) (g : Thing → Grace) → Within call s c t → Within call s c (with_grace t g)
  within_grace t g w = record { fields = w.fields; place = w.place; number = w.number; core = w.core }

  -- a frame of s becomes another
  within_put : (f : ℕ) (y : Frame) → FieldsAt call s c f (s.frame f) y → Within call s c (with_frame s f y)
  within_put f y h = record {
    fields = λ g. put_all (λ g x. FieldsAt call s c g (s.frame g) x) s.frame f y g
        (λ same. subst (λ n. FieldsAt call s c n (s.frame n) y) (sym same) h) (λ other. fields_same g (s.frame g));
    place = λ f i. inl refl;
    number = λ l. inl refl;
    core = λ d. inl refl;
  }

  -- a frame keeps its kind
  within_frame : (t : State) (f : ℕ) (y : Frame) → KeptAt call s c f (t.frame f) y → Within call s c t → Within call s c (with_frame t f y)
  within_frame t f y k w = record {
    fields = λ g. fields_then g (s.frame g) (t.frame g) (put t.frame f y g) (w.fields g)
        (put_all (λ g x. KeptAt call s c g (t.frame g) x) t.frame f y g
        (λ same. subst (λ n. KeptAt call s c n (t.frame n) y) (sym same) k) (λ other. kept_same g (t.frame g)));
    place = w.place;
    number = w.number;
    core = w.core;
  }

  within_place : (t : State) (at : Slot) (p : Place) → InNode call s c at.node → Within call s c t
      → Within call s c (with_place t at.node at.index p)
  within_place t at p node w = record {
    fields = w.fields;
    place = λ f i. place_all (λ f i x. (x ≡ s.place f i) ⊎ MayBy call s c (PlaceIs f i)) t at.node at.index p f i
        (λ here on. inr (node_may f i (subst (InNode call s c) (sym here) node))) (w.place f i);
    number = w.number;
    core = w.core;
  }

  within_number : (t : State) (l : ℕ) (x : Liveness) → MayBy call s c (NumberIs l) → Within call s c t
      → Within call s c (record t { number = put t.number l x })
  within_number t l x may w = record {
    fields = w.fields;
    place = w.place;
    number = λ m. put_all (λ m y. (y ≡ s.number m) ⊎ MayBy call s c (NumberIs m)) t.number l x m
        (λ same. inr (subst (λ n. MayBy call s c (NumberIs n)) (sym same) may)) (λ other. w.number m);
    core = w.core;
  }

  -- ---- edits

  edit_within : (e : Edit) → By call s c e → Within call s c (edited c s e)
  edit_within (Fill at k) by = within_place s at (Holds k) by.0 within_same
  edit_within (Remove at k) by = within_place s at (Quiescing k) by.0 within_same
  edit_within (Node f object) by =
      let w = within_put f (Kernel object) (fields_fresh f (Kernel object) by.0 by.1) in
      record {
        fields = w.fields;
        place = λ g i. put_all (λ g row. (row i ≡ s.place g i) ⊎ MayBy call s c (PlaceIs g i)) s.place f (λ i. Free) g
            (λ same. inr (range_place g i (subst (InRange call s c) (sym same) by.0))) (λ other. inl refl);
        number = w.number;
        core = w.core;
      }
  edit_within (Become f x) by = within_put f x (fields_fresh f x by.0 by.1)
  edit_within (Untype f) by = within_grace (with_frame s f Untyped) _ (within_put f Untyped (fields_untyped f by.0))
  edit_within (Component f k) by =
      let w = within_put f (Kernel (Comp k)) (fields_fresh f (Kernel (Comp k)) by.0 by.1) in
      let n = within_number s k.number (Live k.epoch f) (range_number f k.number by.0 by.2.dead) within_same in
      record { fields = w.fields; place = w.place; number = n.number; core = w.core }
  edit_within (Deaden l e) by =
      within_number s l (Dead e) (inr (record {
        cap = by.0;
        may = by.1;
        over = subst (λ k. Over s c k by.0 (NumberIs l)) (sym by.2) by.3;
      })) within_same
  edit_within (Push f) by =
      let own : ℕ = (s.core c).thread in
      within_frame s own _ (kept_thread own (s.frame own) (record (thread_of s c) { stack = f ∷ (thread_of s c).stack })
      (inr (inl (refl, subst (λ k. IsTrue (is_of_stack k)) (sym by.is) refl))) (inl refl)) within_same
  edit_within Pop by =
      let own : ℕ = (s.core c).thread in
      within_frame s own _ (kept_thread own (s.frame own) (record (thread_of s c) { stack = drop 1 (thread_of s c).stack })
      (inr (inl (refl, subst (λ k. IsTrue (is_of_stack k)) (sym by) refl))) (inl refl)) within_same
  edit_within (Switch h q) by =
      let old : ℕ = (s.core c).thread in
      let idle : State = running s old None in
      within_core (running idle h (Some c)) (record (s.core c) { thread = h; tcap = q })
      (within_frame idle h _ (kept_thread h (idle.frame h) (record (thread_in (idle.frame h)) { runs_on = Some c })
      (inl refl) (inr (thread_may h by.led)))
      (within_frame s old _ (kept_thread old (s.frame old) (record (thread_in (s.frame old)) { runs_on = None })
      (inl refl) (inr (inl (refl, subst (λ k. IsTrue (is_of_thread k)) (sym by.is) refl)))) within_same))
  edit_within (Cache t) by = within_core s _ within_same
  edit_within Flush by = within_grace (with_core s c (record (s.core c) { cached = [] })) _ (within_core s _ within_same)
  edit_within (Charge n) by =
      let q : ℕ = (s.core c).tcap in
      let left : ℕ = (tcap_at s q).budget - charge s c (n + (s.core c).owed) in
      within_core (with_budget s q left) _ (within_frame s q _ (kept_tcap q (s.frame q) (record (tcap_at s q) { budget = left })
      (inr (inl (refl, subst (λ k. IsTrue (is_of_budget k)) (sym by) refl))) (inl refl)) within_same)
  edit_within (Move a b m) by =
      let u : State = with_budget s a ((tcap_at s a).budget - m) in
      within_frame u b _ (kept_tcap b (u.frame b) (record (tcap_at u b) { budget = (tcap_at s b).budget + m })
      (inr (budget_may b by.1)) (inl refl))
      (within_frame s a _ (kept_tcap a (s.frame a) (record (tcap_at s a) { budget = (tcap_at s a).budget - m })
      (inr (budget_may a by.0)) (inl refl)) within_same)
  edit_within (Merge f qs) by =
      within_frame s f _ (kept_tcap f (s.frame f) (record (tcap_at s f) { qualities = qs }) (inl refl) (inr (list_may f by))) within_same
  edit_within (Give f m) by =
      within_core (with_budget s f ((tcap_at s f).budget + m)) _ (within_frame s f _ (kept_tcap f (s.frame f)
      (record (tcap_at s f) { budget = (tcap_at s f).budget + m }) (inr (budget_may f by.0)) (inl refl)) within_same)

  later_within : (t : State) (es : List Edit) → AreLater es → EachBy call s c es → Within call s c t
      → Within call s c (after_edits c t es)
  later_within t [] are by w = w
  later_within t (Fill at k ∷ es) are by w =
      later_within (edited c t (Fill at k)) es are by.1 (within_place t at (Holds k) by.0.0 w)
  later_within t (Merge f qs ∷ es) are by w = later_within (edited c t (Merge f qs)) es are by.1
      (within_frame t f _ (kept_tcap f (t.frame f) (record (tcap_at t f) { qualities = qs }) (inl refl) (inr (list_may f by.0))) w)
  later_within t (_ ∷ es) are by w = absurd are

  pub edits_within : (es : List Edit) → Calm c s es → EachBy call s c es → Within call s c (after_edits c s es)
  edits_within [] calm by = within_same
  edits_within (e ∷ es) calm by = later_within (edited c s e) es calm.2 by.1 (edit_within e by.0)
