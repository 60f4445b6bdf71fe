-- What a change by core d leaves to the other cores in opened calls: each part of a change.
use Rattle.kernel_invariant.specs.kernel_rules.proofs as low
use low.{◌≡◌, ◌≢◌, ◌⊎◌, inl, inr, ℕ, ◌<◌, Bool, true, false, ◌&&◌, ◌||◌, cond, refl, sym, ◌∙◌, ap, subst, ◌==◌, IsTrue, List, ◌∷◌, Some}
use low.{None, false≢true, true≢false, eq-eqb, ne_eqb, eqb-true, or_left, Capability, Place, Free, Holds, Quiescing, Table, Leaf, Pages}
use low.{Pleaf, Frame, Kernel, Liveness, Live, Dead, Core, Grace, Thing, PlaceOf, FrameOf, NumberOf, put, with_place, with_frame}
use low.{with_number, with_core, no_grace, place_names, same_thing, new_grace, begun, flushed, usable_in, is_live_in, is_dead_in, frames_of}
use low.{cleared, put_same, put_other, is_node, is_fixed}
use Rattle.std.proofs.lemmas.Bool.{cases_eq, or_from, and_parts}
use Rattle.kernel_invariant.proofs.{frames_no_place, some_inj, none_some}
use Rattle.{std.specs.List.list_any, kernel_invariant.specs.kernel_rules.specs.State.State}

-- Whether core c may act in a component of this liveness number and epoch.
abbrev pub acts_in : State → ℕ → ℕ → ℕ → Bool
acts_in s c l e = is_live_in (s.number l) e || (is_dead_in (s.number l) e && (s.grace (NumberOf l)).waits c)

-- It still may where the number stays, and those who waited for it wait.
pub acts_more : (here dead w v : Bool) → (IsTrue w → IsTrue v) → IsTrue (here || (dead && w)) → IsTrue (here || (dead && v))
acts_more true dead w v more h = refl
acts_more false true w v more h = more h
acts_more false false w v more h = absurd (false≢true h)

-- From s to t: other cores stay as they are, and the frames of their threads; nodes and components stay; what other cores in
-- opened calls may use in nodes they still may; they still wait for the frames for which they waited; and in a component of a liveness
-- number and epoch in which they might act they still may.
pub record IsApart (s t : State) (o : ℕ → Bool) (d : ℕ) : Type 0 where
  pub core : (c : ℕ) → c ≢ d → t.core c ≡ s.core c
  pub frame : (f : ℕ) → IsTrue (is_fixed (s.frame f)) → t.frame f ≡ s.frame f
  pub thread : (c : ℕ) → c ≢ d → c < s.limits.cores → t.frame (s.core c).thread ≡ s.frame (s.core c).thread
  pub place : (c f i : ℕ) (k : Capability) → c ≢ d → o c ≡ true → IsTrue (is_node (s.frame f))
      → usable_in (s.place f i) ((s.grace (PlaceOf f i)).waits c) ≡ Some k
      → usable_in (t.place f i) ((t.grace (PlaceOf f i)).waits c) ≡ Some k
  pub waits : (c f : ℕ) → c ≢ d → o c ≡ true → IsTrue ((s.grace (FrameOf f)).waits c) → IsTrue ((t.grace (FrameOf f)).waits c)
  pub acts : (c l e : ℕ) → c ≢ d → o c ≡ true → IsTrue (acts_in s c l e) → IsTrue (acts_in t c l e)
  pub limits : t.limits ≡ s.limits

pub node_fixed : (x : Frame) → IsTrue (is_node x) → IsTrue (is_fixed x)
node_fixed (Kernel Table) h = refl
node_fixed (Kernel Leaf) h = refl
node_fixed (Kernel Pages) h = refl
node_fixed (Kernel Pleaf) h = refl
node_fixed _ h = absurd (false≢true h)

pub apart_same : (s : State) (o : ℕ → Bool) (d : ℕ) → IsApart s s o d
apart_same s o d = record {
  core = λ c other. refl;
  frame = λ f fixed. refl;
  thread = λ c other below. refl;
  place = λ c f i k other opened node had. had;
  waits = λ c f other opened w. w;
  acts = λ c l e other opened may. may;
  limits = refl;
}

pub apart_then : (s t u : State) (o : ℕ → Bool) (d : ℕ) → IsApart s t o d → IsApart t u o d → IsApart s u o d
apart_then s t u o d a b = record {
  core = λ c other. b.core c other ∙ a.core c other;
  frame = λ f fixed. b.frame f (subst (λ x. IsTrue (is_fixed x)) (sym (a.frame f fixed)) fixed) ∙ a.frame f fixed;
  thread = λ c other below.
      subst (λ k. u.frame k.thread ≡ t.frame k.thread) (a.core c other) (b.thread c other (subst (λ l. c < l.cores) (sym a.limits) below))
      ∙ a.thread c other below;
  place = λ c f i k other opened node had.
      b.place c f i k other opened (subst (λ x. IsTrue (is_node x)) (sym (a.frame f (node_fixed (s.frame f) node))) node)
      (a.place c f i k other opened node had);
  waits = λ c f other opened w. b.waits c f other opened (a.waits c f other opened w);
  acts = λ c l e other opened may. b.acts c l e other opened (a.acts c l e other opened may);
  limits = b.limits ∙ a.limits;
}

-- A place by its two numbers.
pub slot_is : (f g i j : ℕ) → (f == g && i == j) ≡ true → (f ≡ g) × (i ≡ j)
slot_is f g i j e = let p = and_parts (f == g) (i == j) e in (eqb-true f g p.0, eqb-true i j p.1)

pub place_here : (s : State) (g j : ℕ) (p : Place) (f i : ℕ) → f ≡ g → i ≡ j → put s.place g (put (s.place g) j p) f i ≡ p
place_here s g j p f i same at = ap (λ r. r i) (put_same s.place g (put (s.place g) j p) f same) ∙ put_same (s.place g) j p i at

pub place_there : (s : State) (g j : ℕ) (p : Place) (f i : ℕ)
    → (f == g && i == j) ≡ false → put s.place g (put (s.place g) j p) f i ≡ s.place f i
place_there s g j p f i apart = elim (cases_eq f g) [
  | inl same ↦
      ap (λ r. r i) (put_same s.place g (put (s.place g) j p) f same)
      ∙ put_other (s.place g) j p i (λ at. true≢false (sym (ap (λ b. b && i == j) (eq-eqb f g same) ∙ eq-eqb i j at) ∙ apart))
      ∙ ap (λ n. s.place n i) (sym same)
  | inr other ↦ ap (λ r. r i) (put_other s.place g (put (s.place g) j p) f other)
]

-- A place is filled in which no other core may use anything.
pub fill_apart : (s : State) (o : ℕ → Bool) (d g j : ℕ) (k : Capability)
    → ((c : ℕ) → c ≢ d → o c ≡ true → usable_in (s.place g j) ((s.grace (PlaceOf g j)).waits c) ≡ None)
    → IsApart s (with_place s g j (Holds k)) o d
fill_apart s o d g j k none = record {
  core = λ c other. refl;
  frame = λ f fixed. refl;
  thread = λ c other below. refl;
  place = λ c f i m other opened node had. by_slot c f i m other opened had (f == g && i == j) refl;
  waits = λ c f other opened w. w;
  acts = λ c l e other opened may. may;
  limits = refl;
}
  where
    by_slot : (c f i : ℕ) (m : Capability) → c ≢ d → o c ≡ true → usable_in (s.place f i) ((s.grace (PlaceOf f i)).waits c) ≡ Some m
        → (b : Bool) → (f == g && i == j) ≡ b
        → usable_in (put s.place g (put (s.place g) j (Holds k)) f i) ((s.grace (PlaceOf f i)).waits c) ≡ Some m
    by_slot c f i m other opened had true is =
        let at : (f ≡ g) × (i ≡ j) = slot_is f g i j is in
        let here : usable_in (s.place g j) ((s.grace (PlaceOf g j)).waits c) ≡ usable_in (s.place f i) ((s.grace (PlaceOf f i)).waits c) =
        ap (λ n. usable_in (s.place n j) ((s.grace (PlaceOf n j)).waits c)) (sym at.0)
        ∙ ap (λ n. usable_in (s.place f n) ((s.grace (PlaceOf f n)).waits c)) (sym at.1) in
        absurd (none_some m (sym (none c other opened) ∙ here ∙ had))
    by_slot c f i m other opened had false is =
        ap (λ p. usable_in p ((s.grace (PlaceOf f i)).waits c)) (place_there s g j (Holds k) f i is) ∙ had

-- A chosen grace period, and one that is not.
chosen : (b : Bool) (x y : Grace) → b ≡ true → cond b x y ≡ x
chosen b x y e = ap (λ b. cond b x y) e

left : (b : Bool) (x y : Grace) → b ≡ false → cond b x y ≡ y
left b x y e = ap (λ b. cond b x y) e

-- Who is in a call waits for a frame whose grace period begins, and for the others as before.
pub frame_waits : (s : State) (b : Bool) (x : Thing) (h : Grace) (c : ℕ) → IsTrue (s.core c).inside → IsTrue (h.waits c)
    → IsTrue ((cond b (new_grace s x) h).waits c)
frame_waits s true x h c inside w = inside
frame_waits s false x h c inside w = w

-- A place that holds a capability is removed.
pub remove_apart : (s : State) (o : ℕ → Bool) (d g j : ℕ) (k : Capability)
    → ((c : ℕ) → o c ≡ true → IsTrue (s.core c).inside) → s.place g j ≡ Holds k
    → IsApart s (begun s (PlaceOf g j ∷ frames_of (place_names (Holds k))) (with_place s g j (Quiescing k))) o d
remove_apart s o d g j k inside held = record {
  core = λ c other. refl;
  frame = λ f fixed. refl;
  thread = λ c other below. refl;
  place = λ c f i m other opened node had. by_slot c f i m opened had (f == g && i == j) refl;
  waits = λ c f other opened w. frame_waits s (list_any (same_thing (FrameOf f)) things)
      (FrameOf f) (s.grace (FrameOf f)) c (inside c opened) w;
  acts = λ c l e other opened may. acts_more (is_live_in (s.number l) e) (is_dead_in (s.number l) e) ((s.grace (NumberOf l)).waits c) _
      (λ w. frame_waits s (list_any (same_thing (NumberOf l)) things) (NumberOf l) (s.grace (NumberOf l)) c (inside c opened) w) may;
  limits = refl;
}
  where
    things : List Thing
    things = PlaceOf g j ∷ frames_of (place_names (Holds k))

    new : State
    new = begun s things (with_place s g j (Quiescing k))

    by_slot : (c f i : ℕ) (m : Capability) → o c ≡ true → usable_in (s.place f i) ((s.grace (PlaceOf f i)).waits c) ≡ Some m
        → (b : Bool) → (f == g && i == j) ≡ b → usable_in (new.place f i) ((new.grace (PlaceOf f i)).waits c) ≡ Some m
    by_slot c f i m opened had true is =
        let at : (f ≡ g) × (i ≡ j) = slot_is f g i j is in
        let place : s.place f i ≡ Holds k = ap (λ n. s.place n i) at.0 ∙ ap (s.place g) at.1 ∙ held in
        let mine : list_any (same_thing (PlaceOf f i)) things ≡ true =
        or_left (f == g && i == j) (list_any (same_thing (PlaceOf f i)) (frames_of (place_names (Holds k)))) is in
        let same : k ≡ m = some_inj k m (ap (λ p. usable_in p ((s.grace (PlaceOf f i)).waits c)) (sym place) ∙ had) in
        ap (λ p. usable_in p ((new.grace (PlaceOf f i)).waits c)) (place_here s g j (Quiescing k) f i at.0 at.1)
        ∙ ap (λ h. usable_in (Quiescing k) (h.waits c))
        (chosen (list_any (same_thing (PlaceOf f i)) things) (new_grace s (PlaceOf f i)) (s.grace (PlaceOf f i)) mine)
        ∙ ap (usable_in (Quiescing k)) (inside c opened) ∙ ap Some same
    by_slot c f i m opened had false is =
        let not_mine : list_any (same_thing (PlaceOf f i)) things ≡ false =
        or_from (f == g && i == j) (list_any (same_thing (PlaceOf f i)) (frames_of (place_names (Holds k))))
        is (frames_no_place f i (place_names (Holds k))) in
        ap (λ p. usable_in p ((new.grace (PlaceOf f i)).waits c)) (place_there s g j (Quiescing k) f i is)
        ∙ ap (λ h. usable_in (s.place f i) (h.waits c))
        (left (list_any (same_thing (PlaceOf f i)) things) (new_grace s (PlaceOf f i)) (s.grace (PlaceOf f i)) not_mine)
        ∙ had

-- The grace periods of things begin that are no places.
pub begin_apart : (s next : State) (o : ℕ → Bool) (d : ℕ) (things : List Thing) → ((c : ℕ) → o c ≡ true → IsTrue (s.core c).inside)
    → ((f i : ℕ) → list_any (same_thing (PlaceOf f i)) things ≡ false) → IsApart next (begun s things next) o d
begin_apart s next o d things inside apart = record {
  core = λ c other. refl;
  frame = λ f fixed. refl;
  thread = λ c other below. refl;
  place = λ c f i m other opened node had.
      ap (λ h. usable_in (next.place f i) (h.waits c))
      (left (list_any (same_thing (PlaceOf f i)) things) (new_grace s (PlaceOf f i)) (next.grace (PlaceOf f i)) (apart f i)) ∙ had;
  waits = λ c f other opened w. frame_waits s (list_any (same_thing (FrameOf f)) things)
      (FrameOf f) (next.grace (FrameOf f)) c (inside c opened) w;
  acts = λ c l e other opened may.
      acts_more (is_live_in (next.number l) e) (is_dead_in (next.number l) e) ((next.grace (NumberOf l)).waits c) _
      (λ w. frame_waits s (list_any (same_thing (NumberOf l)) things) (NumberOf l) (next.grace (NumberOf l)) c (inside c opened) w) may;
  limits = refl;
}

-- A frame changes that is no node or component, and no other core's thread.
pub frame_apart : (s : State) (o : ℕ → Bool) (d f : ℕ) (y : Frame) → is_fixed (s.frame f) ≡ false
    → ((c : ℕ) → c ≢ d → c < s.limits.cores → (s.core c).thread ≢ f) → IsApart s (with_frame s f y) o d
frame_apart s o d f y loose away = record {
  core = λ c other. refl;
  frame = λ g fixed. put_other s.frame f y g (λ same. false≢true (sym loose ∙ ap (λ n. is_fixed (s.frame n)) (sym same) ∙ fixed));
  thread = λ c other below. put_other s.frame f y (s.core c).thread (away c other below);
  place = λ c g i m other opened node had. had;
  waits = λ c g other opened w. w;
  acts = λ c l e other opened may. may;
  limits = refl;
}

-- The core itself changes.
pub core_apart : (s : State) (o : ℕ → Bool) (d : ℕ) (k : Core) → IsApart s (with_core s d k) o d
core_apart s o d k = record {
  core = λ c other. put_other s.core d k c other;
  frame = λ f fixed. refl;
  thread = λ c other below. refl;
  place = λ c f i m other opened node had. had;
  waits = λ c f other opened w. w;
  acts = λ c l e other opened may. may;
  limits = refl;
}

-- A liveness number changes in which no other core may act.
pub number_apart : (s : State) (o : ℕ → Bool) (d l : ℕ) (x : Liveness)
    → ((c e : ℕ) → c ≢ d → o c ≡ true → IsTrue (acts_in s c l e) → ⊥) → IsApart s (with_number s l x) o d
number_apart s o d l x none = record {
  core = λ c other. refl;
  frame = λ f fixed. refl;
  thread = λ c other below. refl;
  place = λ c f i m other opened node had. had;
  waits = λ c f other opened w. w;
  acts = λ c m e other opened may. by_number c m e other opened may (cases_eq m l);
  limits = refl;
}
  where
    by_number : (c m e : ℕ) → c ≢ d → o c ≡ true → IsTrue (acts_in s c m e) → (m ≡ l) ⊎ (m ≢ l) → IsTrue (acts_in (with_number s l x) c m e)
    by_number c m e other opened may (inl same) = absurd (none c e other opened (subst (λ n. IsTrue (acts_in s c n e)) same may))
    by_number c m e other opened may (inr apart) =
        subst (λ n. IsTrue (is_live_in n e || (is_dead_in n e && (s.grace (NumberOf m)).waits c)))
        (sym (put_other s.number l x m apart)) may

-- A live number dies, and its grace period begins, for which each core in a call waits.
pub kill_apart : (s : State) (o : ℕ → Bool) (d l e f : ℕ) (names : List ℕ) → ((c : ℕ) → o c ≡ true → IsTrue (s.core c).inside)
    → s.number l ≡ Live e f → IsApart s (begun s (NumberOf l ∷ frames_of names) (with_number s l (Dead e))) o d
kill_apart s o d l e f names inside live = record {
  core = λ c other. refl;
  frame = λ f fixed. refl;
  thread = λ c other below. refl;
  place = λ c g i m other opened node had.
      ap (λ h. usable_in (s.place g i) (h.waits c))
      (left (list_any (same_thing (PlaceOf g i)) things) (new_grace s (PlaceOf g i)) (s.grace (PlaceOf g i)) (frames_no_place g i names))
      ∙ had;
  waits = λ c g other opened w. frame_waits s (list_any (same_thing (FrameOf g)) things)
      (FrameOf g) (s.grace (FrameOf g)) c (inside c opened) w;
  acts = λ c m x other opened may. by_number c m x opened may (cases_eq m l);
  limits = refl;
}
  where
    things : List Thing
    things = NumberOf l ∷ frames_of names

    new : State
    new = begun s things (with_number s l (Dead e))

    begins : (m : ℕ) → m ≡ l → list_any (same_thing (NumberOf m)) things ≡ true
    begins m same = or_left (m == l) (list_any (same_thing (NumberOf m)) (frames_of names)) (eq-eqb m l same)

    -- the number was live in its last epoch alone
    last : (w : Bool) (x : ℕ) → IsTrue (is_live_in (Live e f) x || (is_dead_in (Live e f) x && w)) → (e == x) ≡ true
    last w x may = by (e == x) may
      where
        by : (b : Bool) → (b || false) ≡ true → b ≡ true
        by true h = refl
        by false h = h

    by_number : (c m x : ℕ) → o c ≡ true → IsTrue (acts_in s c m x) → (m ≡ l) ⊎ (m ≢ l) → IsTrue (acts_in new c m x)
    by_number c m x opened may (inl same) =
        let was : s.number m ≡ Live e f = ap s.number same ∙ live in
        let now : new.number m ≡ Dead e = put_same s.number l (Dead e) m same in
        let waits : (new.grace (NumberOf m)).waits c ≡ true =
        ap (λ (h : Grace). h.waits c)
        (chosen (list_any (same_thing (NumberOf m)) things) (new_grace s (NumberOf m)) (s.grace (NumberOf m)) (begins m same))
        ∙ inside c opened in
        let epoch : (e == x) ≡ true =
        last ((s.grace (NumberOf m)).waits c) x
        (subst (λ n. IsTrue (is_live_in n x || (is_dead_in n x && (s.grace (NumberOf m)).waits c))) was may) in
        ap (λ n. is_live_in n x || (is_dead_in n x && (new.grace (NumberOf m)).waits c)) now
        ∙ ap (λ b. b && (new.grace (NumberOf m)).waits c) epoch ∙ waits
    by_number c m x opened may (inr apart) =
        subst (λ n. IsTrue (is_live_in n x || (is_dead_in n x && (new.grace (NumberOf m)).waits c)))
        (sym (put_other s.number l (Dead e) m apart))
        (acts_more (is_live_in (s.number m) x) (is_dead_in (s.number m) x) ((s.grace (NumberOf m)).waits c) _
        (λ w. frame_waits s (list_any (same_thing (NumberOf m)) things) (NumberOf m) (s.grace (NumberOf m)) c (inside c opened) w) may)

-- Every place of a frame that is no node is free.
pub clear_apart : (s : State) (o : ℕ → Bool) (d g : ℕ) → is_node (s.frame g) ≡ false → IsApart s (cleared s g) o d
clear_apart s o d g bare = record {
  core = λ c other. refl;
  frame = λ f fixed. refl;
  thread = λ c other below. refl;
  place = λ c f i m other opened node had.
      let away : f ≢ g = λ same. false≢true (sym bare ∙ ap (λ n. is_node (s.frame n)) (sym same) ∙ node) in
      ap (λ r. usable_in (r i) (((cleared s g).grace (PlaceOf f i)).waits c)) (put_other s.place g (λ i. Free) f away)
      ∙ ap (λ h. usable_in (s.place f i) (h.waits c)) (left (f == g) no_grace (s.grace (PlaceOf f i)) (ne_eqb f g away)) ∙ had;
  waits = λ c f other opened w. w;
  acts = λ c l e other opened may. may;
  limits = refl;
}

-- The core flushes.
pub flush_apart : (s : State) (o : ℕ → Bool) (d : ℕ) → IsApart s (flushed s d) o d
flush_apart s o d = record {
  core = λ c other. put_other s.core d _ c other;
  frame = λ f fixed. refl;
  thread = λ c other below. refl;
  place = λ c f i m other opened node had. had;
  waits = λ c f other opened w. w;
  acts = λ c l e other opened may. may;
  limits = refl;
}
