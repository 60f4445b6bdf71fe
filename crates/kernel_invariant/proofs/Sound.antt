-- In every state that a run reaches, capabilities name frames with an object of their kind, and no frame that is referenced
-- is untyped. `open` are the cores in a call that is not decided.
use Rattle.kernel_rules.proofs.{◌≡◌, ◌≢◌, inl, inr, ℕ, ◌<◌, ◌≤◌, Bool, true, refl, sym, ◌∙◌, ap, subst, arith, ◌==◌, if◌then◌else◌, IsTrue}
use Rattle.kernel_rules.proofs.{List, [], ◌∷◌, false≢true, eq-eqb, ne_eqb, eqb-true, Capability, Kind, Holds, Quiescing, Blank, Comp}
use Rattle.kernel_rules.proofs.{Thread, Frame, Untyped, Kernel, Live, PlaceOf, FrameOf, put, with_frame, named_by, only, fits, IsGood}
use Rattle.kernel_rules.specs.{State.State, Access.kind_number}
use Rattle.{kernel_rules.proofs.is_node, std.proofs.lemmas.Bool.cases_eq}

-- Core c waits for each of these frames.
abbrev pub WaitsForAll : State → ℕ → List ℕ → Type 0
WaitsForAll s c [] = Unit {0}
WaitsForAll s c (f ∷ fs) = IsTrue ((s.grace (FrameOf f)).waits c) × WaitsForAll s c fs

-- Each of these frames has a component.
abbrev pub AreComps : State → List ℕ → Type 0
AreComps s [] = Unit {0}
AreComps s (f ∷ fs) = IsTrue (fits Kind.Comp (s.frame f)) × AreComps s fs

-- A stack has a bottom, and components alone.
abbrev pub IsStack : State → List ℕ → Type 0
IsStack s [] = ⊥
IsStack s (f ∷ fs) = IsTrue (fits Kind.Comp (s.frame f)) × AreComps s fs

-- The fields of a frame's object name objects of their kinds.
abbrev pub IsObjectGood : State → Frame → Type 0
IsObjectGood s (Kernel (Comp k)) = IsTrue (fits Kind.Table (s.frame k.table)) × IsTrue (fits Kind.Pages (s.frame k.pages))
IsObjectGood s (Kernel (Thread t)) = IsStack s t.stack
IsObjectGood s _ = Unit {0}

pub record IsSound (s : State) (opened : ℕ → Bool) : Type 0 where
  pub held : (f i : ℕ) (k : Capability) → s.place f i ≡ Holds k → IsGood s k
  pub waiting : (f i : ℕ) (k : Capability) (c : ℕ) → s.place f i ≡ Quiescing k → opened c ≡ true
      → IsTrue ((s.grace (PlaceOf f i)).waits c) → IsGood s k × WaitsForAll s c (named_by k.kind k.frame)
  pub objects : (f : ℕ) → IsObjectGood s (s.frame f)
  pub cores : (c : ℕ) → c < s.limits.cores
      → IsTrue (fits Kind.Thread (s.frame (s.core c).thread)) × IsTrue (fits Kind.Tcap (s.frame (s.core c).tcap))
  pub numbers : (l e f : ℕ) → s.number l ≡ Live e f → IsTrue (fits Kind.Comp (s.frame f)) × (l < 64)
  pub beyond : (f : ℕ) → s.limits.frames ≤ f → s.frame f ≡ Untyped
  pub bare : (f i : ℕ) (k : Capability) → s.place f i ≡ Holds k → IsTrue (is_node (s.frame f)) × (i < 64)
  pub inside : (c : ℕ) → opened c ≡ true → IsTrue (s.core c).inside × (c < s.limits.cores)

-- Fewer open cores.
pub weaken : (s : State) (o o' : ℕ → Bool) → ((c : ℕ) → o' c ≡ true → o c ≡ true) → IsSound s o → IsSound s o'
weaken s o o' less h = record {
  held = h.held;
  waiting = λ f i k c p q. h.waiting f i k c p (less c q);
  objects = h.objects;
  cores = h.cores;
  numbers = h.numbers;
  beyond = h.beyond;
  bare = h.bare;
  inside = λ c q. h.inside c (less c q);
}

-- The kind that is wanted alone is the kind.
kind_at : ℕ → Kind
kind_at n =
    if n == 0 then Kind.Range
    else (if n == 1 then Kind.Table
    else (if n == 2 then Kind.Leaf
    else (if n == 3 then Kind.Pages
    else (if n == 4 then Kind.Pleaf
    else (if n == 5 then Kind.Comp
    else (if n == 6 then Kind.Gate
    else (if n == 7 then Kind.Thread
    else (if n == 8 then Kind.Tcap
    else (if n == 9 then Kind.Link
    else Kind.Page)))))))))

kind_back : (k : Kind) → kind_at (kind_number k) ≡ k
unfolding kind_at
kind_back Kind.Range = refl
kind_back _ = refl

pub only_is : (j k : Kind) → only j k ≡ true → k ≡ j
only_is j k h = sym (kind_back k) ∙ ap kind_at (eqb-true (kind_number k) (kind_number j) h) ∙ kind_back j

-- What a change of a frame keeps: it has what every capability that names it needs.
pub record Extends (x y : Frame) : Type 0 where
  pub fit : (k : Kind) → IsTrue (fits k x) → IsTrue (fits k y)
  pub node : IsTrue (is_node x) → IsTrue (is_node y)

-- A blank or untyped frame is named by no capability, so it may become anything.
pub from_blank : (y : Frame) → Extends (Kernel Blank) y
from_blank y = record { fit = fit; node = λ h. absurd (false≢true h) }
  where
    fit : (k : Kind) → IsTrue (fits k (Kernel Blank)) → IsTrue (fits k y)
    fit Kind.Range h = refl
    fit _ h = absurd (false≢true h)

pub from_untyped : (y : Frame) → Extends Untyped y
from_untyped y = record { fit = fit; node = λ h. absurd (false≢true h) }
  where
    fit : (k : Kind) → IsTrue (fits k Untyped) → IsTrue (fits k y)
    fit Kind.Range h = refl
    fit _ h = absurd (false≢true h)

put_same : {A : Type 0} (f : ℕ → A) (i : ℕ) (x : A) (j : ℕ) → j ≡ i → put f i x j ≡ x
put_same f i x j e = rw (eq-eqb j i e)

put_other : {A : Type 0} (f : ℕ → A) (i : ℕ) (x : A) (j : ℕ) → j ≢ i → put f i x j ≡ f j
put_other f i x j e = rw (ne_eqb j i e)

-- P holds of every value of `put` where it holds of the old values and of the new one.
pub put_all : {A : Type 0} (P : ℕ → A → Type 0) (f : ℕ → A) (i : ℕ) (x : A) (j : ℕ)
    → (j ≡ i → P j x) → (j ≢ i → P j (f j)) → P j (put f i x j)
put_all P f i x j hx hf = elim (cases_eq j i) [
  | inl same ↦ subst (P j) (sym (put_same f i x j same)) (hx same)
  | inr other ↦ subst (P j) (sym (put_other f i x j other)) (hf other)
]

section_fit : (s : State) (f : ℕ) (y : Frame) → Extends (s.frame f) y
    → (k : Kind) (g : ℕ) → IsTrue (fits k (s.frame g)) → IsTrue (fits k (put s.frame f y g))
section_fit s f y e k g h = put_all (λ g x. IsTrue (fits k x)) s.frame f y g
    (λ same. e.fit k (subst (λ i. IsTrue (fits k (s.frame i))) same h)) (λ other. h)

comps_fit : (s : State) (f : ℕ) (y : Frame) → Extends (s.frame f) y → (fs : List ℕ) → AreComps s fs → AreComps (with_frame s f y) fs
comps_fit s f y e [] h = tt
comps_fit s f y e (g ∷ fs) h = (section_fit s f y e Kind.Comp g h.0, comps_fit s f y e fs h.1)

stack_fit : (s : State) (f : ℕ) (y : Frame) → Extends (s.frame f) y → (fs : List ℕ) → IsStack s fs → IsStack (with_frame s f y) fs
stack_fit s f y e [] h = absurd h
stack_fit s f y e (g ∷ fs) h = (section_fit s f y e Kind.Comp g h.0, comps_fit s f y e fs h.1)

object_fit : (s : State) (f : ℕ) (y : Frame) → Extends (s.frame f) y → (x : Frame) → IsObjectGood s x → IsObjectGood (with_frame s f y) x
object_fit s f y e (Kernel (Comp k)) h = (section_fit s f y e Kind.Table k.table h.0, section_fit s f y e Kind.Pages k.pages h.1)
object_fit s f y e (Kernel (Thread t)) h = stack_fit s f y e t.stack h
object_fit s f y e _ h = tt

good_fit : (s : State) (f : ℕ) (y : Frame) → Extends (s.frame f) y → (k : Capability) → IsGood s k → IsGood (with_frame s f y) k
good_fit s f y e k h = record { fit = section_fit s f y e k.kind k.frame h.fit; within = h.within }

-- A frame of the machine is changed to one that extends it.
pub frame_step : (s : State) (o : ℕ → Bool) (f : ℕ) (y : Frame) → f < s.limits.frames → Extends (s.frame f) y
    → IsObjectGood s y → IsSound s o → IsSound (with_frame s f y) o
frame_step s o f y below e good h = record {
  held = λ g i k p. good_fit s f y e k (h.held g i k p);
  waiting = λ g i k c p q w. let a : IsGood s k × WaitsForAll s c (named_by k.kind k.frame) = h.waiting g i k c p q w in
      (good_fit s f y e k a.0, waits_same (named_by k.kind k.frame) c a.1);
  objects = λ g. put_all (λ g x. IsObjectGood (with_frame s f y) x) s.frame f y g
      (λ same. object_fit s f y e y good) (λ other. object_fit s f y e (s.frame g) (h.objects g));
  cores = λ c m. (
    section_fit s f y e Kind.Thread (s.core c).thread (h.cores c m).0,
    section_fit s f y e Kind.Tcap (s.core c).tcap (h.cores c m).1,
  );
  numbers = λ l d g n. (section_fit s f y e Kind.Comp g (h.numbers l d g n).0, (h.numbers l d g n).1);
  beyond = λ g past. put_all (λ g x. x ≡ Untyped) s.frame f y g
      (λ same. absurd (omega (arith, past, below, same))) (λ other. h.beyond g past);
  bare = λ g i k p. let a : IsTrue (is_node (s.frame g)) × (i < 64) = h.bare g i k p in (
    put_all (λ g x. IsTrue (is_node x)) s.frame f y g
        (λ same. e.node (subst (λ j. IsTrue (is_node (s.frame j))) same a.0)) (λ other. a.0),
    a.1,
  );
  inside = h.inside;
}
  where
    waits_same : (fs : List ℕ) (c : ℕ) → WaitsForAll s c fs → WaitsForAll (with_frame s f y) c fs
    waits_same [] c w = tt
    waits_same (g ∷ fs) c w = (w.0, waits_same fs c w.1)
