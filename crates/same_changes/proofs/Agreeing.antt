-- States that are one on a region: the same change keeps them so, and they are one for the machine where the region is the whole of it.
use Rattle.kernel_laws.specs.kernel_rules.proofs.{◌≡◌, ℕ, ◌<◌, ◌==◌, Bool, true, false, refl, sym, ◌∙◌, ap, subst, if◌then◌else◌, List}
use Rattle.kernel_laws.specs.kernel_rules.proofs.{eqb-true, ltb-true, lt-ltb, put, Place, Frame, Liveness, Core, Grace, Thing, PlaceOf}
use Rattle.kernel_laws.specs.kernel_rules.proofs.{FrameOf, NumberOf, Limits, with_place, with_frame, with_number, with_core, same_thing}
use Rattle.kernel_laws.specs.kernel_rules.proofs.{needs_flush, is_paging, is_translated, new_grace, begun}
use Rattle.seq_lookups.specs.seq_state.specs.{State, IsThing, SameGrace, SameState}
use Rattle.same_changes.specs.{whole, IsIn, AgreeOn}
use Rattle.{std.specs.List.list_any, seq_lookups.specs.seq_state.proofs.Same.same_grace_by, same_changes.specs.Region.Region}

-- ---- the whole machine

pub in_whole : (limits : Limits) (x : Thing) → IsThing limits x → IsIn (whole limits) x
in_whole limits (PlaceOf f i) is = (lt-ltb f limits.frames is.0, is.1)
in_whole limits (FrameOf f) is = lt-ltb f limits.frames is
in_whole limits (NumberOf l) is = lt-ltb l 64 is

in_machine : (limits : Limits) (x : Thing) → IsIn (whole limits) x → IsThing limits x
in_machine limits (PlaceOf f i) is = (ltb-true f limits.frames is.0, is.1)
in_machine limits (FrameOf f) is = ltb-true f limits.frames is
in_machine limits (NumberOf l) is = ltb-true l 64 is

-- Two states that are one for the machine are one on the whole of it.
pub on_whole : (t s : State) → SameState t s → AgreeOn (whole s.limits) t s
on_whole t s e = record {
  limits = e.limits;
  place = λ f i is small. e.place f i (ltb-true f s.limits.frames is) small;
  frame = λ f is. e.frame f (ltb-true f s.limits.frames is);
  number = λ l is. e.number l (ltb-true l 64 is);
  core = λ c is. e.core c (ltb-true c s.limits.cores is);
  inside = λ c less. ap (λ (k : Core). k.inside) (e.core c less);
  grace = λ x is. e.grace x (in_machine s.limits x is);
}

-- And two states with the limits of a machine that are one on the whole of it are one for the machine.
pub from_whole : (limits : Limits) (t s : State) → s.limits ≡ limits → AgreeOn (whole limits) t s → SameState t s
from_whole limits t s same e =
    let frames : s.limits.frames ≡ limits.frames = ap (λ (l : Limits). l.frames) same in
    let cores : s.limits.cores ≡ limits.cores = ap (λ (l : Limits). l.cores) same in
    record {
      limits = e.limits;
      place = λ f i less small. e.place f i (lt-ltb f limits.frames (subst (λ n. f < n) frames less)) small;
      frame = λ f less. e.frame f (lt-ltb f limits.frames (subst (λ n. f < n) frames less));
      number = λ l less. e.number l (lt-ltb l 64 less);
      core = λ c less. e.core c (lt-ltb c limits.cores (subst (λ n. c < n) cores less));
      grace = λ x is. e.grace x (in_whole limits x (subst (λ l. IsThing l x) same is));
    }

-- ---- the same change

pub agree_by : {w : Region} (t s : State) → t ≡ s → AgreeOn w t s
agree_by t s e = record {
  limits = ap (λ (u : State). u.limits) e;
  place = λ f i _ _. ap (λ (u : State). u.place f i) e;
  frame = λ f _. ap (λ (u : State). u.frame f) e;
  number = λ l _. ap (λ (u : State). u.number l) e;
  core = λ c _. ap (λ (u : State). u.core c) e;
  inside = λ c _. ap (λ (u : State). (u.core c).inside) e;
  grace = λ x _. same_grace_by s.limits.cores _ _ (ap (λ (u : State). u.grace x) e);
}

grace_then : (n : ℕ) (g h k : Grace) → SameGrace n g h → SameGrace n h k → SameGrace n g k
grace_then n g h k a b = record {
  waits = λ c l. a.waits c l ∙ b.waits c l;
  not_passed = λ c l. a.not_passed c l ∙ b.not_passed c l;
  unflushed = λ c l. a.unflushed c l ∙ b.unflushed c l;
  flush_unknown = λ c l. a.flush_unknown c l ∙ b.flush_unknown c l;
}

pub agree_then : {w : Region} (t s u : State) → AgreeOn w t s → AgreeOn w s u → AgreeOn w t u
agree_then t s u a b =
    let cores : s.limits.cores ≡ u.limits.cores = ap (λ (l : Limits). l.cores) b.limits in
    record {
      limits = a.limits ∙ b.limits;
      place = λ f i is small. a.place f i is small ∙ b.place f i is small;
      frame = λ f is. a.frame f is ∙ b.frame f is;
      number = λ l is. a.number l is ∙ b.number l is;
      core = λ c is. a.core c is ∙ b.core c is;
      inside = λ c less. a.inside c (subst (λ n. c < n) (sym cores) less) ∙ b.inside c less;
      grace = λ x is. grace_then u.limits.cores _ _ _
          (subst (λ n. SameGrace n (t.grace x) (s.grace x)) cores (a.grace x is)) (b.grace x is);
    }

-- A value of `put` follows from the values that it is made of.
put_both : {A : Type 0} (f g : ℕ → A) (i : ℕ) (x : A) (j : ℕ) → f j ≡ g j → put f i x j ≡ put g i x j
put_both f g i x j e = ap (λ v. if j == i then x else v) e

pub agree_place : {w : Region} (t s : State) (f i : ℕ) (p : Place) → AgreeOn w t s → AgreeOn w (with_place t f i p) (with_place s f i p)
agree_place {w} t s f i p a = record {
  limits = a.limits;
  place = λ g j is small. row (g == f) g j (a.place g j is small)
      (λ e. a.place f j (subst (λ h. w.frame h ≡ true) (eqb-true g f e) is) small);
  frame = a.frame;
  number = a.number;
  core = a.core;
  inside = a.inside;
  grace = a.grace;
}
  where
    row : (b : Bool) (g j : ℕ) → t.place g j ≡ s.place g j → (b ≡ true → t.place f j ≡ s.place f j)
        → (if b then put (t.place f) i p else t.place g) j ≡ (if b then put (s.place f) i p else s.place g) j
    row true g j here there = put_both (t.place f) (s.place f) i p j (there refl)
    row false g j here there = here

pub agree_frame : {w : Region} (t s : State) (f : ℕ) (x : Frame) → AgreeOn w t s → AgreeOn w (with_frame t f x) (with_frame s f x)
agree_frame t s f x a = record {
  limits = a.limits;
  place = a.place;
  frame = λ g is. put_both t.frame s.frame f x g (a.frame g is);
  number = a.number;
  core = a.core;
  inside = a.inside;
  grace = a.grace;
}

pub agree_number : {w : Region} (t s : State) (l : ℕ) (x : Liveness) → AgreeOn w t s → AgreeOn w (with_number t l x) (with_number s l x)
agree_number t s l x a = record {
  limits = a.limits;
  place = a.place;
  frame = a.frame;
  number = λ m is. put_both t.number s.number l x m (a.number m is);
  core = a.core;
  inside = a.inside;
  grace = a.grace;
}

pub agree_core : {w : Region} (t s : State) (c : ℕ) (x : Core) → AgreeOn w t s → AgreeOn w (with_core t c x) (with_core s c x)
agree_core t s c x a = record {
  limits = a.limits;
  place = a.place;
  frame = a.frame;
  number = a.number;
  core = λ d is. put_both t.core s.core c x d (a.core d is);
  inside = λ d less. by_test (d == c) d (a.inside d less);
  grace = a.grace;
}
  where
    by_test : (b : Bool) (d : ℕ) → (t.core d).inside ≡ (s.core d).inside
        → (if b then x else t.core d).inside ≡ (if b then x else s.core d).inside
    by_test true d e = refl
    by_test false d e = e

-- ---- beginning grace periods

flush_needed : {w : Region} (t s : State) → AgreeOn w t s → (x : Thing) → IsIn w x → needs_flush t x ≡ needs_flush s x
flush_needed t s e (PlaceOf f i) is = ap is_paging (e.frame f is.0)
flush_needed t s e (FrameOf f) is = ap is_translated (e.frame f is)
flush_needed t s e (NumberOf l) is = refl

new_grace_agrees : {w : Region} (t s : State) → AgreeOn w t s → (x : Thing) → IsIn w x
    → SameGrace s.limits.cores (new_grace t x) (new_grace s x)
new_grace_agrees t s e x is = record {
  waits = λ c less. e.inside c less;
  not_passed = λ c less. refl;
  unflushed = λ c less. flush_needed t s e x is;
  flush_unknown = λ c less. flush_needed t s e x is;
}

-- The grace periods that a change begins, begun in two states that are one on a region.
pub agree_begun : {w : Region} (t s t' s' : State) (xs : List Thing) → AgreeOn w t s → AgreeOn w t' s' → s'.limits ≡ s.limits
    → AgreeOn w (begun t xs t') (begun s xs s')
agree_begun {w} t s t' s' xs e e' limits = record {
  limits = e'.limits;
  place = e'.place;
  frame = e'.frame;
  number = e'.number;
  core = e'.core;
  inside = e'.inside;
  grace = λ x is. by_test x is (list_any (same_thing x) xs);
}
  where
    by_test : (x : Thing) → IsIn w x → (b : Bool) → SameGrace s'.limits.cores (if b then new_grace t x else t'.grace x)
        (if b then new_grace s x else s'.grace x)
    by_test x is true =
        subst (λ (l : Limits). SameGrace l.cores (new_grace t x) (new_grace s x)) (sym limits) (new_grace_agrees t s e x is)
    by_test x is false = e'.grace x is
