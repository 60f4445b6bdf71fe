-- Removals, releases and retypes to untyped keep a state sound.
use Rattle.kernel_rules.proofs.{◌≡◌, ◌≢◌, inl, inr, ℕ, zero, suc, ◌+◌, ◌<◌, ◌≤◌, Bool, true, false, not, ◌&&◌, refl, sym, ◌∙◌, ap, subst}
use Rattle.kernel_rules.proofs.{arith, ◌==◌, cond, if◌then◌else◌, IsTrue, List, [], ◌∷◌, Option, Some, None, find, false≢true, true≢false}
use Rattle.kernel_rules.proofs.{eq-eqb, ne_eqb, eqb-true, or_left, or_right, Capability, Kind, Holds, Quiescing, Comp, Thread, Frame}
use Rattle.kernel_rules.proofs.{Untyped, Kernel, Grace, Thing, PlaceOf, FrameOf, put, with_place, with_frame, with_grace, no_grace}
use Rattle.kernel_rules.proofs.{named_by, place_names, frame_names, number_names, core_names, times, node_refs, refs, same_thing, new_grace}
use Rattle.kernel_rules.proofs.{begun, waits_of, frames_of, put_same, put_other, fits, IsGood, is_node, Reply}
use Rattle.std.proofs.lemmas.Bool.{cases_eq, or_from, cases_lt, and_parts}
use Rattle.kernel_invariant.proofs.Sums.{sum_term, times_cons, times_first}
use Rattle.kernel_invariant.proofs.Sound.{WaitsForAll, AreComps, IsStack, IsObjectGood, IsSound, put_all}
use Rattle.kernel_invariant.proofs.SoundSteps.{place_all, holds_quiescing, quiescing_holds, quiescing_inj, waits_all, grace_step}
use Rattle.{kernel_rules.specs.other_waiting, kernel_rules.specs.quiescing_by, std.specs.List.list_any, std.specs.List.range_with_len}
use Rattle.{kernel_rules.specs.State.State, kernel_invariant.proofs.Facts.some_none}

-- No frame is a place.
pub frames_no_place : (f i : ℕ) (fs : List ℕ) → list_any (same_thing (PlaceOf f i)) (frames_of fs) ≡ false
frames_no_place f i [] = refl
frames_no_place f i (g ∷ fs) = frames_no_place f i fs

-- A choice by a test that fails is the second.
pub not_chosen : (b : Bool) (g h : Grace) (c : ℕ) → b ≡ false → IsTrue ((if b then g else h).waits c) → IsTrue (h.waits c)
not_chosen b g h c e w = subst (λ b. IsTrue ((if b then g else h).waits c)) e w

-- A core that is in a call waits for a frame whose grace period begins, and for the others as before.
frame_waits : (s : State) (b : Bool) (x : Thing) (h : Grace) (c : ℕ) → IsTrue (s.core c).inside → IsTrue (h.waits c)
    → IsTrue ((if b then new_grace s x else h).waits c)
frame_waits s true x h c inside w = inside
frame_waits s false x h c inside w = w

-- The grace periods of things begin that are no places.
pub begin_step : (s next : State) (o : ℕ → Bool) (things : List Thing)
    → ((f i : ℕ) → list_any (same_thing (PlaceOf f i)) things ≡ false)
    → ((c : ℕ) → o c ≡ true → IsTrue (s.core c).inside)
    → IsSound next o → IsSound (begun s things next) o
begin_step s next o things apart inside h =
    grace_step next o (λ x. if list_any (same_thing x) things then new_grace s x else next.grace x)
    (λ f i c q w. not_chosen (list_any (same_thing (PlaceOf f i)) things)
    (new_grace s (PlaceOf f i)) (next.grace (PlaceOf f i)) c (apart f i) w)
    (λ f c q w. frame_waits s (list_any (same_thing (FrameOf f)) things) (FrameOf f) (next.grace (FrameOf f)) c (inside c q) w)
    h

-- A place that holds a capability is removed.
pub remove_step : (s : State) (o : ℕ → Bool) (g j : ℕ) (k : Capability) → s.place g j ≡ Holds k → IsSound s o
    → IsSound (begun s (PlaceOf g j ∷ frames_of (place_names (Holds k))) (with_place s g j (Quiescing k))) o
remove_step s o g j k at h = record {
  held = λ f i m. place_all (λ f i x. x ≡ Holds m → IsGood new m) s g j (Quiescing k) f i
      (λ same is e. absurd (quiescing_holds k m e)) (λ e. good m (h.held f i m e));
  waiting = λ f i m c. place_all (λ f i x. x ≡ Quiescing m → o c ≡ true → IsTrue ((new.grace (PlaceOf f i)).waits c)
      → IsGood new m × WaitsForAll new c (named_by m.kind m.frame)) s g j (Quiescing k) f i
      (λ same is e q w. (
        good m (subst (IsGood s) (quiescing_inj k m e) (h.held g j k at)),
        subst (λ n. WaitsForAll new c (named_by n.kind n.frame)) (quiescing_inj k m e) (begun_all c (named_by k.kind k.frame) (begins c q)),
      ))
      (λ e q w. let a : IsGood s m × WaitsForAll s c (named_by m.kind m.frame) = h.waiting f i m c e q (elsewhere f i c m e w) in (
        good m a.0,
        waits_all s new c (λ f w. frame_waits s (list_any (same_thing (FrameOf f)) things)
            (FrameOf f) (s.grace (FrameOf f)) c (h.inside c q).0 w) (named_by m.kind m.frame) a.1,
      ));
  objects = h.objects;
  cores = h.cores;
  numbers = h.numbers;
  beyond = h.beyond;
  bare = λ f i m. place_all (λ f i x. x ≡ Holds m → IsTrue (is_node (s.frame f)) × (i < 64)) s g j (Quiescing k) f i
      (λ same is e. absurd (quiescing_holds k m e)) (h.bare f i m);
  inside = h.inside;
}
  where
    things : List Thing
    things = PlaceOf g j ∷ frames_of (place_names (Holds k))

    new : State
    new = begun s things (with_place s g j (Quiescing k))

    good : (m : Capability) → IsGood s m → IsGood new m
    good m a = record { fit = a.fit; within = a.within }

    this : (f i c : ℕ) (m : Capability) → s.place f i ≡ Quiescing m → (b : Bool) → (f == g && i == j) ≡ b → b ≡ false
    this f i c m e false is = refl
    this f i c m e true is =
        let p : (f == g) ≡ true = (and_parts (f == g) (i == j) is).0 in
        let q : (i == j) ≡ true = (and_parts (f == g) (i == j) is).1 in
        absurd (holds_quiescing k m (sym at ∙ ap (λ n. s.place n j) (sym (eqb-true f g p)) ∙ ap (s.place f) (sym (eqb-true i j q)) ∙ e))

    elsewhere : (f i c : ℕ) (m : Capability) → s.place f i ≡ Quiescing m
        → IsTrue ((new.grace (PlaceOf f i)).waits c) → IsTrue ((s.grace (PlaceOf f i)).waits c)
    elsewhere f i c m e w = not_chosen (list_any (same_thing (PlaceOf f i)) things) (new_grace s (PlaceOf f i)) (s.grace (PlaceOf f i)) c
        (or_from (f == g && i == j) (list_any (same_thing (PlaceOf f i)) (frames_of (place_names (Holds k))))
        (this f i c m e (f == g && i == j) refl) (frames_no_place f i (place_names (Holds k)))) w

    chosen : (b : Bool) (x y : Grace) (c : ℕ) → b ≡ true → IsTrue (x.waits c) → IsTrue ((if b then x else y).waits c)
    chosen b x y c e w = subst (λ b. IsTrue ((if b then x else y).waits c)) (sym e) w

    among : (f : ℕ) (fs : List ℕ) → list_any (same_thing (FrameOf f)) (frames_of (f ∷ fs)) ≡ true
    among f fs = or_left (f == f) (list_any (same_thing (FrameOf f)) (frames_of fs)) (eq-eqb f f refl)

    begins : (c : ℕ) → o c ≡ true → (f : ℕ) → list_any (same_thing (FrameOf f)) things ≡ true → IsTrue ((new.grace (FrameOf f)).waits c)
    begins c q f e = chosen (list_any (same_thing (FrameOf f)) things) (new_grace s (FrameOf f)) (s.grace (FrameOf f)) c e (h.inside c q).0

    begun_all : (c : ℕ) → (fs : List ℕ) → ((f : ℕ) → list_any (same_thing (FrameOf f)) (frames_of fs) ≡ true
        → IsTrue ((new.grace (FrameOf f)).waits c)) → WaitsForAll new c fs
    begun_all c [] each = tt
    begun_all c (f ∷ fs) each =
        (each f (among f fs), begun_all c fs (λ g e. each g (or_right (g == f) (list_any (same_thing (FrameOf g)) (frames_of fs)) e)))

-- A list that does not name a frame does not begin with it.
apart : (f g : ℕ) (fs : List ℕ) → times f (g ∷ fs) ≡ 0 → g ≢ f
apart f g fs e same =
    let one : 1 ≤ times f (f ∷ fs) = times_first f fs in
    let e' : times f (f ∷ fs) ≡ 0 = ap (λ h. times f (h ∷ fs)) (sym same) ∙ e in
    omega (arith, one, e')

rest_apart : (f g : ℕ) (fs : List ℕ) → times f (g ∷ fs) ≡ 0 → times f fs ≡ 0
rest_apart f g fs e = let p = times_cons f g fs in omega (arith, p, e)

-- A frame that no reference names.
pub record IsUnnamed (s : State) (f : ℕ) : Type 0 where
  pub places : (g i : ℕ) → g < s.limits.frames → i < 64 → times f (place_names (s.place g i)) ≡ 0
  pub objects : (g : ℕ) → g < s.limits.frames → times f (frame_names (s.frame g)) ≡ 0
  pub cores : (c : ℕ) → c < s.limits.cores → times f (core_names (s.core c)) ≡ 0
  pub numbers : (l : ℕ) → l < 64 → times f (number_names (s.number l)) ≡ 0

node_ref : (s : State) (f g i : ℕ) → i < 64 → times f (place_names (s.place g i)) ≤ node_refs s f g
unfolding node_refs
node_ref s f g i small = sum_term (λ i. times f (place_names (s.place g i))) 64 i small

pub unnamed : (s : State) (f : ℕ) → refs s f ≡ 0 → IsUnnamed s f
unfolding refs
unnamed s f none = record {
  places = λ g i below small.
      let a = node_ref s f g i small in
      let b = sum_term (node_refs s f) s.limits.frames g below in
      omega (arith, a, b, none);
  objects = λ g below. let b = sum_term (λ g. times f (frame_names (s.frame g))) s.limits.frames g below in omega (arith, b, none);
  cores = λ c below. let b = sum_term (λ c. times f (core_names (s.core c))) s.limits.cores c below in omega (arith, b, none);
  numbers = λ l below. let b = sum_term (λ l. times f (number_names (s.number l))) 64 l below in omega (arith, b, none);
}

-- What an untyped frame is not, is a frame of the machine.
pub below_by : (s : State) (o : ℕ → Bool) (g : ℕ) → IsSound s o → (P : Frame → Bool)
    → P Untyped ≡ false → P (s.frame g) ≡ true → g < s.limits.frames
below_by s o g h P none fit = elim (cases_lt g s.limits.frames) [
  | inl below ↦ below
  | inr past ↦ absurd (false≢true (sym none ∙ ap P (sym (h.beyond g past)) ∙ fit))
]

-- A frame that is not named fits what names others.
fit_apart : (s : State) (f : ℕ) (k : Kind) (g : ℕ) → times f (named_by k g) ≡ 0
    → IsTrue (fits k (s.frame g)) → IsTrue (fits k (put s.frame f Untyped g))
fit_apart s f Kind.Range g e h = refl
fit_apart s f k g e h = subst (λ x. IsTrue (fits k x)) (sym (put_other s.frame f Untyped g (apart f g [] e))) h

fit_other : (s : State) (f : ℕ) (k : Kind) (g : ℕ) → g ≢ f → IsTrue (fits k (s.frame g)) → IsTrue (fits k (put s.frame f Untyped g))
fit_other s f k g other h = subst (λ x. IsTrue (fits k x)) (sym (put_other s.frame f Untyped g other)) h

-- The state with an untyped frame, whose grace period is over.
abbrev pub untyped : State → ℕ → State
untyped s f = with_grace (with_frame s f Untyped) (λ x. if same_thing x (FrameOf f) then no_grace else s.grace x)

comps_apart : (s : State) (f : ℕ) (fs : List ℕ) → times f fs ≡ 0 → AreComps s fs → AreComps (untyped s f) fs
comps_apart s f [] e h = tt
comps_apart s f (g ∷ fs) e h = (fit_other s f Kind.Comp g (apart f g fs e) h.0, comps_apart s f fs (rest_apart f g fs e) h.1)

stack_apart : (s : State) (f : ℕ) (fs : List ℕ) → times f fs ≡ 0 → IsStack s fs → IsStack (untyped s f) fs
stack_apart s f [] e h = absurd h
stack_apart s f (g ∷ fs) e h = (fit_other s f Kind.Comp g (apart f g fs e) h.0, comps_apart s f fs (rest_apart f g fs e) h.1)

object_apart : (s : State) (f : ℕ) (x : Frame) → times f (frame_names x) ≡ 0 → IsObjectGood s x → IsObjectGood (untyped s f) x
object_apart s f (Kernel (Comp k)) e h = (
  fit_other s f Kind.Table k.table (apart f k.table (k.pages ∷ []) e) h.0,
  fit_other s f Kind.Pages k.pages (apart f k.pages [] (rest_apart f k.table (k.pages ∷ []) e)) h.1,
)
object_apart s f (Kernel (Thread t)) e h = stack_apart s f t.stack e h
object_apart s f _ e h = tt

-- No other core waits for a frame.
abbrev pub NoneWaits : State → ℕ → ℕ → Type 0
NoneWaits s c f = (d : ℕ) → d < s.limits.cores → d ≢ c → (s.grace (FrameOf f)).waits d ≡ false

-- A frame that is not named, for which no other core waits, and which holds nothing, becomes untyped by the call of core c.
pub untype_step : (s : State) (o : ℕ → Bool) (c f : ℕ) → f < s.limits.frames → IsUnnamed s f → NoneWaits s c f
    → ((i : ℕ) (k : Capability) → s.place f i ≡ Holds k → ⊥)
    → IsSound s o → IsSound (untyped s f) (put o c false)
untype_step s o c f below un none bare h = record {
  held = λ g i k p.
      let b : IsTrue (is_node (s.frame g)) × (i < 64) = h.bare g i k p in
      good k (subst (λ x. times f (place_names x) ≡ 0) p (un.places g i (below_by s o g h is_node refl b.0) b.1)) (h.held g i k p);
  waiting = λ g i k d p q w.
      let q' : o d ≡ true = opened d q in
      let a : IsGood s k × WaitsForAll s d (named_by k.kind k.frame) = h.waiting g i k d p q' w in
      let d' : (s.grace (FrameOf f)).waits d ≡ false = none d (h.inside d q').1 (other d q) in
      (good k (not_among d d' (named_by k.kind k.frame) a.1) a.0, still d d' (named_by k.kind k.frame) a.1);
  objects = λ g. put_all (λ g x. IsObjectGood (untyped s f) x) s.frame f Untyped g (λ same. tt)
      (λ other. object_apart s f (s.frame g) (names_apart g) (h.objects g));
  cores = λ d m.
      let e : times f ((s.core d).thread ∷ (s.core d).tcap ∷ []) ≡ 0 = un.cores d m in (
        fit_other s f Kind.Thread (s.core d).thread (apart f (s.core d).thread ((s.core d).tcap ∷ []) e) (h.cores d m).0,
        fit_other s f Kind.Tcap (s.core d).tcap (apart f (s.core d).tcap [] (rest_apart f (s.core d).thread ((s.core d).tcap ∷ []) e))
            (h.cores d m).1,
      );
  numbers = λ l e g n.
      let a : IsTrue (fits Kind.Comp (s.frame g)) × (l < 64) = h.numbers l e g n in
      (fit_other s f Kind.Comp g (apart f g [] (subst (λ x. times f (number_names x) ≡ 0) n (un.numbers l a.1))) a.0, a.1);
  beyond = λ g past. put_all (λ g x. x ≡ Untyped) s.frame f Untyped g (λ same. refl) (λ other. h.beyond g past);
  bare = λ g i k p.
      let b : IsTrue (is_node (s.frame g)) × (i < 64) = h.bare g i k p in (
        subst (λ x. IsTrue (is_node x)) (sym (put_other s.frame f Untyped g (λ same. bare i k (sym (ap (λ n. s.place n i) same) ∙ p)))) b.0,
        b.1,
      );
  inside = λ d q. h.inside d (opened d q);
}
  where
    other : (d : ℕ) → put o c false d ≡ true → d ≢ c
    other d q same = false≢true (sym (put_same o c false d same) ∙ q)

    opened : (d : ℕ) → put o c false d ≡ true → o d ≡ true
    opened d q = sym (put_other o c false d (other d q)) ∙ q

    good : (k : Capability) → times f (named_by k.kind k.frame) ≡ 0 → IsGood s k → IsGood (untyped s f) k
    good k e a = record { fit = fit_apart s f k.kind k.frame e a.fit; within = a.within }

    names_apart : (g : ℕ) → times f (frame_names (s.frame g)) ≡ 0
    names_apart g = elim (cases_lt g s.limits.frames) [
      | inl less ↦ un.objects g less
      | inr past ↦ ap (λ x. times f (frame_names x)) (h.beyond g past)
    ]

    away : (d : ℕ) → (s.grace (FrameOf f)).waits d ≡ false → (g : ℕ) → IsTrue ((s.grace (FrameOf g)).waits d) → g ≢ f
    away d none g w same = false≢true (sym none ∙ ap (λ n. (s.grace (FrameOf n)).waits d) (sym same) ∙ w)

    not_among : (d : ℕ) → (s.grace (FrameOf f)).waits d ≡ false → (fs : List ℕ) → WaitsForAll s d fs → times f fs ≡ 0
    not_among d none [] w = refl
    not_among d none (g ∷ fs) w =
        let p = times_cons f g fs in
        let q : cond (g == f) 1 0 ≡ zero = ap (λ t. cond t 1 0) (ne_eqb g f (away d none g w.0)) in
        let r = not_among d none fs w.1 in
        omega (arith, p, q, r)

    still : (d : ℕ) → (s.grace (FrameOf f)).waits d ≡ false → (fs : List ℕ) → WaitsForAll s d fs → WaitsForAll (untyped s f) d fs
    still d none [] w = tt
    still d none (g ∷ fs) w = (
      subst (λ b. IsTrue ((if b then no_grace else s.grace (FrameOf g)).waits d)) (sym (ne_eqb g f (away d none g w.0))) w.0,
      still d none fs w.1,
    )

-- A range without a number that passes has none that does.
pub find_not : (p : ℕ → Bool) (a n e : ℕ) → find p (range_with_len a n) ≡ None → a ≤ e → e < a + n → p e ≡ false
find_not p a zero e h low high = absurd (omega (arith, low, high))
find_not p a (suc n) e h low high = tested (find_not p (a + 1) n e) (p a) refl h
  where
    tested : (find p (range_with_len (a + 1) n) ≡ None → a + 1 ≤ e → e < (a + 1) + n → p e ≡ false)
        → (t : Bool) → p a ≡ t → cond t (Some a) (find p (range_with_len (a + 1) n)) ≡ None → p e ≡ false
    tested more true is q = absurd (some_none a q)
    tested more false is q = elim (cases_eq e a) [
      | inl same ↦ ap p same ∙ is
      | inr other ↦ more q (omega (arith, low, other)) (omega (arith, high))
    ]

-- Where no other core is found waiting for a thing, none waits.
pub none_waiting : (s : State) (c : ℕ) (x : Thing) → waits_of s c x ≡ None
    → (d : ℕ) → d < s.limits.cores → d ≢ c → (s.grace x).waits d ≡ false
none_waiting s c x h d below other = waits_not ((s.grace x).waits d)
    (ap (λ b. (s.grace x).waits d && not b) (sym (ne_eqb d c other)) ∙ find_not (λ e. (s.grace x).waits e && not (e == c))
    0 s.limits.cores d (not_found (other_waiting s c x) h) (omega arith) (omega (arith, below)))
  where
    not_found : (w : Option ℕ) → quiescing_by w ≡ None → w ≡ None
    not_found None e = refl
    not_found (Some e) q = absurd (some_none (Reply.Quiescing e) q)

    waits_not : (b : Bool) → (b && true) ≡ false → b ≡ false
    waits_not true e = absurd (true≢false e)
    waits_not false e = refl

pub none_waits : (s : State) (c f : ℕ) → waits_of s c (FrameOf f) ≡ None → NoneWaits s c f
none_waits s c f h = none_waiting s c (FrameOf f) h
