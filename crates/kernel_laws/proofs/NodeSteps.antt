-- Each part of a change keeps what nodes hold fitting them.
use Rattle.found_stays.specs as low
use low.kernel_rules.proofs.{◌≡◌, ◌≢◌, ℕ, ◌<◌, ◌≤◌, Bool, true, false, ◌&&◌, refl, sym, ◌∙◌, ap, subst, arith, ◌==◌, if◌then◌else◌, IsTrue}
use low.kernel_rules.proofs.{List, [], ◌∷◌, false≢true, eqb-true, ne_eqb, Capability, Kind, Free, Holds, Quiescing, Table, Leaf, Pages}
use low.kernel_rules.proofs.{Pleaf, Frame, Untyped, Kernel, Comp, Thing, PlaceOf, FrameOf, put, with_place, with_frame, no_grace, named_by}
use low.kernel_rules.proofs.{place_names, times, same_thing, new_grace, begun, frames_of, cleared, is_node, put_same, put_other}
use low.kernel_invariant.proofs.{times_first, WaitsForAll, IsSound, only_is, put_all, place_all, free_holds, free_quiescing}
use low.kernel_invariant.proofs.{holds_quiescing, quiescing_holds, holds_inj, frames_no_place, below_by}
use low.kernel_invariant.proofs.SoundRemovals.{not_chosen, IsUnnamed, NoneWaits, untyped}
use Rattle.kernel_laws.specs.Nodes.{takes, leads_to, FitsNode}
use Rattle.{std.proofs.lemmas.Bool.or_from, std.proofs.lemmas.Bool.and_parts, std.specs.List.list_any}
use low.{kernel_rules.specs.State.State, kernel_invariant.proofs.SoundSteps.quiescing_inj}

-- What places hold, and what open cores may still use of nodes, fits the nodes.
pub record IsFitted (s : State) (o : ℕ → Bool) : Type 0 where
  pub held : (f i : ℕ) (k : Capability) → s.place f i ≡ Holds k → FitsNode (s.frame f) k.kind (s.frame k.frame)
  pub waiting : (f i : ℕ) (k : Capability) (c : ℕ) → s.place f i ≡ Quiescing k → o c ≡ true → IsTrue (is_node (s.frame f))
      → IsTrue ((s.grace (PlaceOf f i)).waits c) → FitsNode (s.frame f) k.kind (s.frame k.frame)

-- Fewer open cores.
pub fewer : (s : State) (o o' : ℕ → Bool) → ((c : ℕ) → o' c ≡ true → o c ≡ true) → IsFitted s o → IsFitted s o'
fewer s o o' less h = record { held = h.held; waiting = λ f i k c p q. h.waiting f i k c p (less c q) }

-- A node takes capabilities; what is no node takes none.
pub takes_node : (x : Frame) (k : Kind) → IsTrue (takes x k) → IsTrue (is_node x)
takes_node (Kernel Table) k h = refl
takes_node (Kernel Leaf) k h = refl
takes_node (Kernel Pages) k h = refl
takes_node (Kernel Pleaf) k h = refl
takes_node _ k h = absurd (false≢true h)

-- Where a frame leads to one that is no node, it leads to any.
pub leads_any : (z x y : Frame) → is_node x ≡ false → IsTrue (leads_to z x) → IsTrue (leads_to z y)
leads_any (Kernel Table) (Kernel Leaf) y none h = absurd (false≢true (sym none))
leads_any (Kernel Table) _ y none h = absurd (false≢true h)
leads_any (Kernel Pages) (Kernel Pleaf) y none h = absurd (false≢true (sym none))
leads_any (Kernel Pages) _ y none h = absurd (false≢true h)
leads_any (Kernel (Comp k)) x y none h = refl
leads_any _ x y none h = refl

-- From x to y: nodes stay, and none is new.
pub record IsAlike (x y : Frame) : Type 0 where
  pub stays : IsTrue (is_node x) → y ≡ x
  pub old : IsTrue (is_node y) → y ≡ x

pub alike_same : (x : Frame) → IsAlike x x
alike_same x = record { stays = λ h. refl; old = λ h. refl }

pub alike_none : (x y : Frame) → is_node x ≡ false → is_node y ≡ false → IsAlike x y
alike_none x y a b = record { stays = λ h. absurd (false≢true (sym a ∙ h)); old = λ h. absurd (false≢true (sym b ∙ h)) }

pub alike_then : (x y z : Frame) → IsAlike x y → IsAlike y z → IsAlike x z
alike_then x y z a b = record {
  stays = λ h. let e : y ≡ x = a.stays h in b.stays (subst (λ w. IsTrue (is_node w)) (sym e) h) ∙ e;
  old = λ h. let e : z ≡ y = b.old h in e ∙ a.old (subst (λ w. IsTrue (is_node w)) e h);
}

-- A frame leads to the other where it led to the one.
alike_leads : (z x y : Frame) → IsAlike x y → IsTrue (leads_to z x) → IsTrue (leads_to z y)
alike_leads z x y a h = by_node (is_node x) refl
  where
    by_node : (b : Bool) → is_node x ≡ b → IsTrue (leads_to z y)
    by_node true is = subst (λ w. IsTrue (leads_to z w)) (sym (a.stays is)) h
    by_node false is = leads_any z x y is h

alike_fits : (x y : Frame) (k : Kind) (m n : Frame) → IsAlike x y → IsAlike m n → FitsNode x k m → FitsNode y k n
alike_fits x y k m n a b h =
    let e : y ≡ x = a.stays (takes_node x k h.kind) in
    record {
      kind = subst (λ w. IsTrue (takes w k)) (sym e) h.kind;
      leaf = alike_leads y m n b (subst (λ w. IsTrue (leads_to w m)) (sym e) h.leaf);
    }

-- Frames are alike, places stay, and no open core waits for more places.
pub alike_step : (s t : State) (o : ℕ → Bool) → ((f i : ℕ) → t.place f i ≡ s.place f i) → ((f : ℕ) → IsAlike (s.frame f) (t.frame f))
    → ((f i c : ℕ) → IsTrue ((t.grace (PlaceOf f i)).waits c) → IsTrue ((s.grace (PlaceOf f i)).waits c)) → IsFitted s o → IsFitted t o
alike_step s t o place frame waits h = record {
  held = λ f i k p. alike_fits (s.frame f) (t.frame f) k.kind (s.frame k.frame)
      (t.frame k.frame) (frame f) (frame k.frame) (h.held f i k (sym (place f i) ∙ p));
  waiting = λ f i k c p q n w. alike_fits (s.frame f) (t.frame f) k.kind (s.frame k.frame) (t.frame k.frame) (frame f) (frame k.frame)
      (h.waiting f i k c (sym (place f i) ∙ p) q (subst (λ x. IsTrue (is_node x)) ((frame f).old n) n) (waits f i c w));
}

-- A place of a node is filled with what fits it.
pub fill_fits : (s : State) (o : ℕ → Bool) (g j : ℕ) (k : Capability) → FitsNode (s.frame g) k.kind (s.frame k.frame) → IsFitted s o
    → IsFitted (with_place s g j (Holds k)) o
fill_fits s o g j k fits h = record {
  held = λ f i m. place_all (λ f i x. x ≡ Holds m → FitsNode (s.frame f) m.kind (s.frame m.frame)) s g j (Holds k) f i
      (λ same at e. subst (λ (n : Capability). FitsNode (s.frame f) n.kind (s.frame n.frame)) (holds_inj k m e)
      (subst (λ n. FitsNode (s.frame n) k.kind (s.frame k.frame)) (sym same) fits))
      (h.held f i m);
  waiting =
      λ f i m c. place_all (λ f i x. x ≡ Quiescing m → o c ≡ true → IsTrue (is_node (s.frame f))
      → IsTrue ((s.grace (PlaceOf f i)).waits c) → FitsNode (s.frame f) m.kind (s.frame m.frame)) s g j (Holds k) f i
      (λ same at e q n w. absurd (holds_quiescing k m e)) (h.waiting f i m c);
}

-- A place that holds a capability is removed.
pub remove_fits : (s : State) (o : ℕ → Bool) (g j : ℕ) (k : Capability) → s.place g j ≡ Holds k → IsFitted s o
    → IsFitted (begun s (PlaceOf g j ∷ frames_of (place_names (Holds k))) (with_place s g j (Quiescing k))) o
remove_fits s o g j k at h = record {
  held = λ f i m. place_all (λ f i x. x ≡ Holds m → FitsNode (s.frame f) m.kind (s.frame m.frame)) s g j (Quiescing k) f i
      (λ same is e. absurd (quiescing_holds k m e)) (h.held f i m);
  waiting =
      λ f i m c. place_all (λ f i x. x ≡ Quiescing m → o c ≡ true → IsTrue (is_node (s.frame f))
      → IsTrue ((new.grace (PlaceOf f i)).waits c) → FitsNode (s.frame f) m.kind (s.frame m.frame)) s g j (Quiescing k) f i
      (λ same is e q n w. subst (λ (n : Capability). FitsNode (s.frame f) n.kind (s.frame n.frame)) (quiescing_inj k m e)
      (subst (λ n. FitsNode (s.frame n) k.kind (s.frame k.frame)) (sym same) (h.held g j k at)))
      (λ e q n w. h.waiting f i m c e q n (elsewhere f i c m e w));
}
  where
    things : List Thing
    things = PlaceOf g j ∷ frames_of (place_names (Holds k))

    new : State
    new = begun s things (with_place s g j (Quiescing k))

    this : (f i : ℕ) (m : Capability) → s.place f i ≡ Quiescing m → (b : Bool) → (f == g && i == j) ≡ b → b ≡ false
    this f i m e false is = refl
    this f i m e true is =
        let p = and_parts (f == g) (i == j) is in
        absurd (holds_quiescing k m (sym at ∙ ap (λ n. s.place n j) (sym (eqb-true f g p.0)) ∙ ap (s.place f) (sym (eqb-true i j p.1)) ∙ e))

    elsewhere : (f i c : ℕ) (m : Capability) → s.place f i ≡ Quiescing m → IsTrue ((new.grace (PlaceOf f i)).waits c)
        → IsTrue ((s.grace (PlaceOf f i)).waits c)
    elsewhere f i c m e w = not_chosen (list_any (same_thing (PlaceOf f i)) things) (new_grace s (PlaceOf f i)) (s.grace (PlaceOf f i)) c
        (or_from (f == g && i == j) (list_any (same_thing (PlaceOf f i)) (frames_of (place_names (Holds k))))
        (this f i m e (f == g && i == j) refl) (frames_no_place f i (place_names (Holds k)))) w

-- The places of a frame that is no node are freed, and it has an object: it may be a node.
pub object_fits : (s : State) (o : ℕ → Bool) (f : ℕ) (y : Frame) → is_node (s.frame f) ≡ false → IsFitted s o
    → IsFitted (with_frame (cleared s f) f y) o
object_fits s o f y none h = record {
  held = λ g i k p. fits g k (h.held g i k (was_held g i k p));
  waiting = λ g i k c p q n w. let old = was_quiescing g i k p in
      fits g k (h.waiting g i k c old.1 q (subst (λ x. IsTrue (is_node x)) (put_other s.frame f y g old.0) n)
      (kept g i c old.0 w));
}
  where
    was_held : (g i : ℕ) (k : Capability) → put s.place f (λ i. Free) g i ≡ Holds k → s.place g i ≡ Holds k
    was_held g i k =
        put_all (λ g r. r i ≡ Holds k → s.place g i ≡ Holds k) s.place f (λ i. Free) g (λ same e. absurd (free_holds k e)) (λ other e. e)

    was_quiescing : (g i : ℕ) (k : Capability) → put s.place f (λ i. Free) g i ≡ Quiescing k → (g ≢ f) × (s.place g i ≡ Quiescing k)
    was_quiescing g i k = put_all (λ g r. r i ≡ Quiescing k → (g ≢ f) × (s.place g i ≡ Quiescing k)) s.place f (λ i. Free) g
        (λ same e. absurd (free_quiescing k e)) (λ other e. (other, e))

    kept : (g i c : ℕ) → g ≢ f → IsTrue ((if g == f then no_grace else s.grace (PlaceOf g i)).waits c)
        → IsTrue ((s.grace (PlaceOf g i)).waits c)
    kept g i c other w = subst (λ b. IsTrue ((if b then no_grace else s.grace (PlaceOf g i)).waits c)) (ne_eqb g f other) w

    fits : (g : ℕ) (k : Capability) → FitsNode (s.frame g) k.kind (s.frame k.frame)
        → FitsNode (put s.frame f y g) k.kind (put s.frame f y k.frame)
    fits g k a =
        let other : g ≢ f = λ same.
        false≢true (sym none ∙ ap (λ n. is_node (s.frame n)) (sym same) ∙ takes_node (s.frame g) k.kind a.kind) in
        let e : put s.frame f y g ≡ s.frame g = put_other s.frame f y g other in
        record {
          kind = subst (λ x. IsTrue (takes x k.kind)) (sym e) a.kind;
          leaf = subst (λ x. IsTrue (leads_to x (put s.frame f y k.frame))) (sym e)
              (put_all (λ n x. IsTrue (leads_to (s.frame g) x)) s.frame f y k.frame
              (λ same. leads_any (s.frame g) (s.frame f) y none (subst (λ n. IsTrue (leads_to (s.frame g) (s.frame n))) same a.leaf))
              (λ at. a.leaf));
        }

-- A frame that leads to some frames alone is a root, and takes links.
root_links : (x : Frame) (k : Kind) (y : Frame) → IsTrue (takes x k) → leads_to x y ≡ false → k ≡ Kind.Link
root_links (Kernel Table) k y h none = only_is Kind.Link k h
root_links (Kernel Pages) k y h none = only_is Kind.Link k h
root_links (Kernel Leaf) k y h none = absurd (false≢true (sym none))
root_links (Kernel Pleaf) k y h none = absurd (false≢true (sym none))
root_links _ k y h none = absurd (false≢true h)

-- A frame that nothing names, for which no other core waits, and which holds nothing, becomes untyped by the call of core c.
pub untype_fits : (s : State) (o : ℕ → Bool) (c f : ℕ) → IsUnnamed s f → NoneWaits s c f
    → ((i : ℕ) (k : Capability) → s.place f i ≡ Holds k → ⊥)
    → IsSound s o → IsFitted s o → IsFitted (untyped s f) (put o c false)
untype_fits s o c f un none bare sound h = record {
  held = λ g i k p.
      let b : IsTrue (is_node (s.frame g)) × (i < 64) = sound.bare g i k p in
      fits g k (λ same. bare i k (sym (ap (λ n. s.place n i) same) ∙ p))
      (λ link same. not_named k link same
      (subst (λ x. times f (place_names x) ≡ 0) p (un.places g i (below_by s o g sound is_node refl b.0) b.1)))
      (h.held g i k p);
  waiting = λ g i k d p q n w.
      let away : g ≢ f = λ same. false≢true (ap is_node (sym (put_same s.frame f Untyped g same)) ∙ n) in
      let q' : o d ≡ true = opened d q in
      let a = (sound.waiting g i k d p q' w).1 in
      fits g k away
      (λ link same. false≢true (sym (none d (sound.inside d q').1 (other d q)) ∙ waits_link k d link same a))
      (h.waiting g i k d p q' (subst (λ x. IsTrue (is_node x)) (put_other s.frame f Untyped g away) n) w);
}
  where
    other : (d : ℕ) → put o c false d ≡ true → d ≢ c
    other d q same = false≢true (sym (put_same o c false d same) ∙ q)

    opened : (d : ℕ) → put o c false d ≡ true → o d ≡ true
    opened d q = sym (put_other o c false d (other d q)) ∙ q

    not_named : (k : Capability) → k.kind ≡ Kind.Link → k.frame ≡ f → times f (named_by k.kind k.frame) ≡ 0 → ⊥
    not_named k link same zero =
        let one : 1 ≤ times f (f ∷ []) = times_first f [] in
        let e : times f (f ∷ []) ≡ 0 = ap (λ n. times f (n ∷ [])) (sym same) ∙ ap (λ j. times f (named_by j k.frame)) (sym link) ∙ zero in
        omega (arith, one, e)

    waits_link : (k : Capability) (d : ℕ) → k.kind ≡ Kind.Link → k.frame ≡ f → WaitsForAll s d (named_by k.kind k.frame)
        → IsTrue ((s.grace (FrameOf f)).waits d)
    waits_link k d link same a =
        let l : WaitsForAll s d (k.frame ∷ []) = subst (λ j. WaitsForAll s d (named_by j k.frame)) link a in
        subst (λ n. IsTrue ((s.grace (FrameOf n)).waits d)) same l.0

    fits : (g : ℕ) (k : Capability) → g ≢ f → (k.kind ≡ Kind.Link → k.frame ≡ f → ⊥) → FitsNode (s.frame g) k.kind (s.frame k.frame)
        → FitsNode (put s.frame f Untyped g) k.kind (put s.frame f Untyped k.frame)
    fits g k away not_link a =
        let e : put s.frame f Untyped g ≡ s.frame g = put_other s.frame f Untyped g away in
        record {
          kind = subst (λ x. IsTrue (takes x k.kind)) (sym e) a.kind;
          leaf = subst (λ x. IsTrue (leads_to x (put s.frame f Untyped k.frame))) (sym e)
              (put_all (λ n x. IsTrue (leads_to (s.frame g) x)) s.frame f Untyped k.frame
              (λ same. any (leads_to (s.frame g) Untyped) refl same) (λ at. a.leaf));
        }
      where
        any : (b : Bool) → leads_to (s.frame g) Untyped ≡ b → k.frame ≡ f → IsTrue b
        any true is same = refl
        any false is same = absurd (not_link (root_links (s.frame g) k.kind Untyped a.kind is) same)
