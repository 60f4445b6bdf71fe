-- What a decision puts: what places hold and what cores may use after it was so before, or was put from what the core named; so it is of
-- components.
use Rattle.authority_laws.specs.kernel_laws.proofs as low
use low.{◌≡◌, ◌⊎◌, inl, inr, ℕ, ◌+◌, ◌-◌, Bool, true, false, cond, refl, sym, ◌∙◌, ap, subst, if◌then◌else◌, List, [], ◌∷◌, drop, Some}
use low.{None, is_some, false≢true, Capability, Call, Reply, Place, Free, Holds, Quiescing, CompFields, ThreadFields, TcapFields, Comp}
use low.{Thread, Tcap, Frame, Untyped, Kernel, Live, Dead, Grace, Thing, PlaceOf, State, with_place, with_frame, thread_in, thread_of}
use low.{no_grace, Slot, usable, usable_in, held_in, new_grace, fits, with_thread, running, tcap_at, with_tcap, with_budget, charge, Edit}
use low.{Fill, Node, Become, Untype, Component, Deaden, Push, Pop, Charge, Move, Merge, Give, edited, after_edits, begins, ends, flushes}
use low.{state_by, MayReply, put_all, place_all, IsOpen, none_some, some_inj, flushed_by, grace_is, AreLater, Calm, Kind}
use Rattle.authority_laws.proofs.{InRange, InNode, IsGiven, By, EachBy, decided_from}
use Rattle.authority_laws.specs.kernel_invariant.proofs.{free_holds, quiescing_holds, holds_inj}
use Rattle.authority_laws.specs.kernel_rules.specs.Edits.{Remove, Switch}
use Rattle.authority_laws.specs.state_laws.proofs.Kept.{KeptBy, decided_kept}
use Rattle.authority_laws.proofs.Acts.{IsTaken, Makes}

-- A capability that core c puts in a node, and a component that it makes in a frame.
abbrev pub Put : Call → State → ℕ → ℕ → Capability → Type 0
Put call s c f k = InNode call s c f × (IsTaken s c k ⊎ IsGiven call s c k)

abbrev pub Made : Call → State → ℕ → ℕ → CompFields → Type 0
Made call s c f k = InRange call s c f × Makes call s c k

-- What places of t hold was held in s, or is put; its components were in s, or are made; and so are its live numbers.
pub record PutFrom (call : Call) (s : State) (c : ℕ) (t : State) : Type 0 where
  pub held : (f i : ℕ) (k : Capability) → t.place f i ≡ Holds k → (s.place f i ≡ Holds k) ⊎ Put call s c f k
  pub comp : (f : ℕ) (k : CompFields) → t.frame f ≡ Kernel (Comp k) → (s.frame f ≡ Kernel (Comp k)) ⊎ Made call s c f k
  pub live : (l e f : ℕ) → t.number l ≡ Live e f → (s.number l ≡ Live e f) ⊎ InRange call s c f

no_comp : (x : Frame) (k : CompFields) → fits Kind.Comp x ≡ false → x ≡ Kernel (Comp k) → ⊥
no_comp x k none e = false≢true (sym none ∙ ap (fits Kind.Comp) e)

thread_comp : (x : Frame) (t : ThreadFields) (k : CompFields) → with_thread x t ≡ Kernel (Comp k) → x ≡ Kernel (Comp k)
thread_comp (Kernel (Thread u)) t k e = absurd (no_comp (Kernel (Thread t)) k refl e)
thread_comp _ t k e = e

tcap_comp : (x : Frame) (q : TcapFields) (k : CompFields) → with_tcap x q ≡ Kernel (Comp k) → x ≡ Kernel (Comp k)
tcap_comp (Kernel (Tcap p)) q k e = absurd (no_comp (Kernel (Tcap q)) k refl e)
tcap_comp _ q k e = e

comp_inj : (j k : CompFields) → Kernel (Comp j) ≡ Kernel (Comp k) → j ≡ k
comp_inj j k e = cc

live_frame : (e d f g : ℕ) → Live e f ≡ Live d g → f ≡ g
live_frame e d f g q = cc

dead_live : (e d f : ℕ) → Dead e ≡ Live d f → ⊥
dead_live e d f q = cc

module _ (call : Call) (s : State) (c : ℕ) where
  same_put : PutFrom call s c s
  same_put = record { held = λ f i k e. inl e; comp = λ f k e. inl e; live = λ l e f q. inl q }

  place_put : (t : State) (at : Slot) (p : Place) → ((k : Capability) → p ≡ Holds k → Put call s c at.node k) → PutFrom call s c t
      → PutFrom call s c (with_place t at.node at.index p)
  place_put t at p new h = record {
    held = λ f i k. place_all (λ f i x. x ≡ Holds k → (s.place f i ≡ Holds k) ⊎ Put call s c f k) t at.node at.index p f i
        (λ here on e. inr (subst (λ n. Put call s c n k) (sym here) (new k e))) (λ e. h.held f i k e);
    comp = h.comp;
    live = h.live;
  }

  frame_put : (t : State) (f : ℕ) (y : Frame)
      → ((k : CompFields) → y ≡ Kernel (Comp k) → (t.frame f ≡ Kernel (Comp k)) ⊎ Made call s c f k) → PutFrom call s c t
      → PutFrom call s c (with_frame t f y)
  frame_put t f y new h = record {
    held = h.held;
    comp = λ g k. put_all (λ g x. x ≡ Kernel (Comp k) → (s.frame g ≡ Kernel (Comp k)) ⊎ Made call s c g k) t.frame f y g
        (λ same e. elim (new k e) [
          | inl was ↦ h.comp g k (ap t.frame same ∙ was)
          | inr made ↦ inr (subst (λ n. Made call s c n k) (sym same) made)
        ])
        (λ other e. h.comp g k e);
    live = h.live;
  }

  thread_put : (t : State) (f : ℕ) (u : ThreadFields) → PutFrom call s c t → PutFrom call s c (with_frame t f (with_thread (t.frame f) u))
  thread_put t f u h = frame_put t f (with_thread (t.frame f) u) (λ k e. inl (thread_comp (t.frame f) u k e)) h

  tcap_put : (t : State) (f : ℕ) (q : TcapFields) → PutFrom call s c t → PutFrom call s c (with_frame t f (with_tcap (t.frame f) q))
  tcap_put t f q h = frame_put t f (with_tcap (t.frame f) q) (λ k e. inl (tcap_comp (t.frame f) q k e)) h

  edit_put : (e : Edit) → By call s c e → PutFrom call s c (edited c s e)
  edit_put (Fill at k) by = place_put s at (Holds k) (λ j e. subst (Put call s c at.node) (holds_inj k j e) by) same_put
  edit_put (Remove at k) by = place_put s at (Quiescing k) (λ j e. absurd (quiescing_holds k j e)) same_put
  edit_put (Node f object) by = record {
    held = λ g i k. put_all (λ g row. row i ≡ Holds k → (s.place g i ≡ Holds k) ⊎ Put call s c g k) s.place f (λ i. Free) g
        (λ same e. absurd (free_holds k e)) (λ other e. inl e);
    comp = (frame_put s f (Kernel object) (λ k e. absurd (no_comp (Kernel object) k by.2.no_comp e)) same_put).comp;
    live = λ l e g q. inl q;
  }
  edit_put (Become f x) by = frame_put s f x (λ k e. absurd (no_comp x k by.2.no_comp e)) same_put
  edit_put (Untype f) by =
      let h = frame_put s f Untyped (λ k e. absurd (no_comp Untyped k refl e)) same_put in
      record { held = h.held; comp = h.comp; live = h.live }
  edit_put (Component f j) by =
      let h = frame_put s f (Kernel (Comp j)) (λ k e. inr (by.0, subst (Makes call s c) (comp_inj j k e) by.2)) same_put in
      record {
        held = h.held;
        comp = h.comp;
        live = λ l e g. put_all (λ l x. x ≡ Live e g → (s.number l ≡ Live e g) ⊎ InRange call s c g) s.number j.number (Live j.epoch f) l
            (λ same q. inr (subst (InRange call s c) (live_frame j.epoch e f g q) by.0)) (λ other q. inl q);
      }
  edit_put (Deaden n d) by = record {
    held = λ f i k e. inl e;
    comp = λ f k e. inl e;
    live = λ l e g. put_all (λ l x. x ≡ Live e g → (s.number l ≡ Live e g) ⊎ InRange call s c g) s.number n (Dead d) l
        (λ same q. absurd (dead_live d e g q)) (λ other q. inl q);
  }
  edit_put (Push f) by = thread_put s (s.core c).thread (record (thread_of s c) { stack = f ∷ (thread_of s c).stack }) same_put
  edit_put Pop by = thread_put s (s.core c).thread (record (thread_of s c) { stack = drop 1 (thread_of s c).stack }) same_put
  edit_put (Switch h q) by =
      let old : ℕ = (s.core c).thread in
      let idle : State = running s old None in
      let p = thread_put idle h (record (thread_in (idle.frame h)) { runs_on = Some c })
      (thread_put s old (record (thread_in (s.frame old)) { runs_on = None }) same_put) in
      record { held = p.held; comp = p.comp; live = p.live }
  edit_put (Charge n) by =
      let q : ℕ = (s.core c).tcap in
      let h = tcap_put s q (record (tcap_at s q) { budget = (tcap_at s q).budget - charge s c (n + (s.core c).owed) }) same_put in
      record { held = h.held; comp = h.comp; live = h.live }
  edit_put (Move a b m) by =
      let u : State = with_budget s a ((tcap_at s a).budget - m) in
      tcap_put u b (record (tcap_at u b) { budget = (tcap_at s b).budget + m })
      (tcap_put s a (record (tcap_at s a) { budget = (tcap_at s a).budget - m }) same_put)
  edit_put (Merge f qs) by = tcap_put s f (record (tcap_at s f) { qualities = qs }) same_put
  edit_put (Give f m) by =
      let h = tcap_put s f (record (tcap_at s f) { budget = (tcap_at s f).budget + m }) same_put in
      record { held = h.held; comp = h.comp; live = h.live }
  edit_put _ by = record { held = λ f i k e. inl e; comp = λ f k e. inl e; live = λ l e f q. inl q }

  later_put : (t : State) (es : List Edit) → AreLater es → EachBy call s c es → PutFrom call s c t → PutFrom call s c (after_edits c t es)
  later_put t [] are by h = h
  later_put t (Fill at k ∷ es) are by h = later_put (edited c t (Fill at k)) es are by.1
      (place_put t at (Holds k) (λ j e. subst (Put call s c at.node) (holds_inj k j e) by.0) h)
  later_put t (Merge f qs ∷ es) are by h = later_put (edited c t (Merge f qs)) es are by.1
      (tcap_put t f (record (tcap_at t f) { qualities = qs }) h)
  later_put t (_ ∷ es) are by h = absurd are

  edits_put : (es : List Edit) → Calm c s es → EachBy call s c es → PutFrom call s c (after_edits c s es)
  edits_put [] calm by = same_put
  edits_put (e ∷ es) calm by = later_put (edited c s e) es calm.2 by.1 (edit_put e by.0)

-- ---- a decision

pub decided_put : (s : State) (c : ℕ) (o : ℕ → Bool) → IsOpen s o c → (call : Call) (r : Reply) → MayReply s c call r
    → PutFrom call s c (state_by s c call r)
decided_put s c o h call r may = decided_from s c o h call (PutFrom call s c) (same_put call s c)
    (λ t k same spent p. record { held = p.held; comp = p.comp; live = p.live })
    (λ t g p. record { held = p.held; comp = p.comp; live = p.live })
    (λ es calm by. edits_put call s c es calm by) r may

held_usable : (p : Place) (b : Bool) (k : Capability) → p ≡ Holds k → usable_in p b ≡ Some k
held_usable p b k e = ap (λ x. usable_in x b) e

-- Who waits after a decision that neither begins nor ends a grace period waited before.
waited : (s : State) (c d : ℕ) (x : Thing) (b a l : Bool) → (b ≡ true → ⊥)
    → (cond b (new_grace s x) (cond a no_grace (cond l (flushed_by c (s.grace x)) (s.grace x)))).waits d ≡ true
    → (s.grace x).waits d ≡ true
waited s c d x true a l none w = absurd (none refl)
waited s c d x false true l none w = absurd (false≢true w)
waited s c d x false false true none w = w
waited s c d x false false false none w = w

module _ (s : State) (c : ℕ) (o : ℕ → Bool) (h : IsOpen s o c) (call : Call) (r : Reply) (may : MayReply s c call r)
    (f i d : ℕ) (k : Capability) where
  abbrev t : State
  t = state_by s c call r

  kept : KeptBy s t (begins s c call r) (ends call r)
  kept = decided_kept s o c call r h may

  by_wait : (j : Capability) (b : Bool) → (if b then Some j else None) ≡ Some k → (b ≡ true) × (j ≡ k)
  by_wait j true q = (refl, some_inj j k q)
  by_wait j false q = absurd (none_some k q)

  not_begun : (j : Capability) → s.place f i ≡ Quiescing j → begins s c call r (PlaceOf f i) ≡ true → ⊥
  not_begun j was begun = false≢true (sym (ap (λ p. is_some (held_in p)) was) ∙ kept.removed f i begun)

  by_place : (p : Place) → t.place f i ≡ p → usable_in p ((t.grace (PlaceOf f i)).waits d) ≡ Some k
      → (usable s d (record { node = f; index = i }) ≡ Some k) ⊎ Put call s c f k
  by_place Free is e = absurd (none_some k e)
  by_place (Holds j) is e = elim ((decided_put s c o h call r may).held f i k (is ∙ ap Holds (some_inj j k e))) [
    | inl was ↦ inl (held_usable (s.place f i) ((s.grace (PlaceOf f i)).waits d) k was)
    | inr new ↦ inr new
  ]
  by_place (Quiescing j) is e =
      let w : ((t.grace (PlaceOf f i)).waits d ≡ true) × (j ≡ k) = by_wait j ((t.grace (PlaceOf f i)).waits d) e in
      elim (kept.quiescing f i j is) [
        | inr held ↦ inl (held_usable (s.place f i) ((s.grace (PlaceOf f i)).waits d) k (held ∙ ap Holds w.1))
        | inl was ↦
            let before : (s.grace (PlaceOf f i)).waits d ≡ true =
            waited s c d (PlaceOf f i) (begins s c call r (PlaceOf f i)) (ends call r (PlaceOf f i)) (flushes call r) (not_begun j was)
            (ap (λ (g : Grace). g.waits d) (sym (grace_is s c call r may (PlaceOf f i))) ∙ w.0) in
            inl (ap (λ p. usable_in p ((s.grace (PlaceOf f i)).waits d)) was
            ∙ ap (λ b. if b then Some j else None) before ∙ ap Some w.1)
      ]

  -- What a core may use after a decision it might use before, or it is put there.
  pub usable_from : usable t d (record { node = f; index = i }) ≡ Some k
      → (usable s d (record { node = f; index = i }) ≡ Some k) ⊎ Put call s c f k
  usable_from = by_place (t.place f i) refl
