-- References are released only to frames that are something; and a decision that ends a grace period does not begin it.
use Rattle.kernel_rules.proofs.{◌≡◌, ◌⊎◌, inl, inr, ℕ, ◌≤◌, arith, Bool, true, false, ◌||◌, ◌==◌, refl, sym, ◌∙◌, ap, subst, IsTrue}
use Rattle.kernel_rules.proofs.{if◌then◌else◌, List, [], ◌∷◌, take, false≢true, eqb-true, Kind, Call, Value, Reply, Untyped, Blank, Comp}
use Rattle.kernel_rules.proofs.{Thread, Frame, Kernel, Liveness, Live, Thing, FrameOf, thread_in, thread_of, named_by, frame_names}
use Rattle.kernel_rules.proofs.{number_names, times, refs, same_thing, Change, does, Judged, Refused, Found, frames_of, Edit, Node, Untype}
use Rattle.kernel_rules.proofs.{Deaden, Pop, begins_all, change_of, begins, ends, MayReply, begins_in as begun_in, fits, IfFound}
use Rattle.kernel_rules.specs.{State.State, Edits.Remove, Edits.Switch, Edits.begins_in}
use Rattle.kernel_invariant.proofs.{Sound.AreComps, Sound.IsStack, Sound.IsObjectGood, Sound.IsSound, SoundCalls.IsOpen, Edited.Known}
use Rattle.kernel_invariant.proofs.{Edited.Each, Edited.Calm, Edited.Edits, Edited.found_by, FrameTurns.is_typed, Sums.times_cons}
use Rattle.{kernel_invariant.specs.ends_in, kernel_invariant.specs.ends_all, std.proofs.lemmas.Bool.cases_lt, std.specs.List.list_any}
use Rattle.{kernel_invariant.proofs.Sums.times_first, kernel_invariant.proofs.SoundRemovals.unnamed}

-- Each of these frames is something.
abbrev pub AreTyped : State → List ℕ → Type 0
AreTyped s [] = Unit {0}
AreTyped s (f ∷ fs) = IsTrue (is_typed (s.frame f)) × AreTyped s fs

one_typed : (s : State) (f : ℕ) (fs : List ℕ) → AreTyped s fs
    → list_any (same_thing (FrameOf f)) (frames_of fs) ≡ true → IsTrue (is_typed (s.frame f))
one_typed s f [] h is = absurd (false≢true is)
one_typed s f (g ∷ fs) h is = by_first (one_typed s f fs h.1) (f == g) refl is
  where
    by_first : (list_any (same_thing (FrameOf f)) (frames_of fs) ≡ true → IsTrue (is_typed (s.frame f))) → (b : Bool) → (f == g) ≡ b
        → (b || list_any (same_thing (FrameOf f)) (frames_of fs)) ≡ true → IsTrue (is_typed (s.frame f))
    by_first rest true same is = subst (λ n. IsTrue (is_typed (s.frame n))) (sym (eqb-true f g same)) h.0
    by_first rest false same is = rest is

-- What fits a capability but a range is something.
fit_typed : (k : Kind) (x : Frame) (f : ℕ) → IsTrue (fits k x) → (named_by k f ≡ []) ⊎ IsTrue (is_typed x)
fit_typed Kind.Range x f h = inl refl
fit_typed k Untyped f h = absurd (false≢true h)
fit_typed k (Kernel Blank) f h = absurd (false≢true h)
fit_typed k x f h = inr refl

-- A change releases references to frames that are something.
abbrev pub ReleasesTyped : State → Change → Type 0
ReleasesTyped s change = (f : ℕ) → list_any (same_thing (FrameOf f)) change.begins ≡ true → IsTrue (is_typed (s.frame f))

names_typed : (s : State) (k : Kind) (f : ℕ) → IsTrue (fits k (s.frame f)) → AreTyped s (named_by k f)
names_typed s Kind.Range f h = tt
names_typed s k f h = (by_fit (fit_typed k (s.frame f) f h), tt)
  where
    by_fit : (f ∷ [] ≡ []) ⊎ IsTrue (is_typed (s.frame f)) → IsTrue (is_typed (s.frame f))
    by_fit (inl none) = absurd (cc)
    by_fit (inr typed) = typed

comp_typed : (s : State) (f : ℕ) → IsTrue (fits Kind.Comp (s.frame f)) → IsTrue (is_typed (s.frame f))
comp_typed s f h = (names_typed s Kind.Comp f h).0

comps_typed : (s : State) (fs : List ℕ) → AreComps s fs → AreTyped s fs
comps_typed s [] h = tt
comps_typed s (f ∷ fs) h = (comp_typed s f h.0, comps_typed s fs h.1)

stack_typed : (s : State) (fs : List ℕ) → IsStack s fs → AreTyped s fs
stack_typed s [] h = absurd h
stack_typed s (f ∷ fs) h = (comp_typed s f h.0, comps_typed s fs h.1)

take_typed : (s : State) (fs : List ℕ) → AreTyped s fs → AreTyped s (take 1 fs)
take_typed s [] h = tt
take_typed s (f ∷ fs) h = (h.0, tt)

object_typed : (s : State) (x : Frame) → IsObjectGood s x → AreTyped s (frame_names x)
object_typed s (Kernel (Comp k)) h = ((names_typed s Kind.Table k.table h.0).0, ((names_typed s Kind.Pages k.pages h.1).0, tt))
object_typed s (Kernel (Thread t)) h = stack_typed s t.stack h
object_typed s _ h = tt

module _ (s : State) (o : ℕ → Bool) (d : ℕ) (h : IsOpen s o d) where
  cores_typed : IsTrue (is_typed (s.frame (s.core d).thread)) × IsTrue (is_typed (s.frame (s.core d).tcap))
  cores_typed =
      let fit : IsTrue (fits Kind.Thread (s.frame (s.core d).thread)) × IsTrue (fits Kind.Tcap (s.frame (s.core d).tcap)) =
      h.sound.cores d (h.sound.inside d h.is).1 in
      ((names_typed s Kind.Thread (s.core d).thread fit.0).0, (names_typed s Kind.Tcap (s.core d).tcap fit.1).0)

  left_typed : (b : Bool) → AreTyped s ((s.core d).thread ∷ (if b then [] else (s.core d).tcap ∷ []))
  left_typed true = (cores_typed.0, tt)
  left_typed false = (cores_typed.0, (cores_typed.1, tt))

  number_typed : (l : ℕ) (x : Liveness) → s.number l ≡ x → AreTyped s (number_names x)
  number_typed l (Live epoch f) is = (comp_typed s f (h.sound.numbers l epoch f is).0, tt)
  number_typed l _ is = tt

  own_typed : (x : Frame) → IsTrue (fits Kind.Thread x) → IsObjectGood s x → AreTyped s (thread_in x).stack
  own_typed (Kernel (Thread t)) fit good = stack_typed s t.stack good
  own_typed _ fit good = absurd (false≢true fit)

  edit_releases : (e : Edit) → Known d s e → (f : ℕ) → list_any (same_thing (FrameOf f)) (begins_in d s e) ≡ true
      → IsTrue (is_typed (s.frame f))
  edit_releases (Remove at k) known f is =
      one_typed s f (named_by k.kind k.frame) (names_typed s k.kind k.frame (h.sound.held at.node at.index k known.1).fit) is
  edit_releases (Untype g) known f is = one_typed s f (frame_names (s.frame g)) (object_typed s (s.frame g) (h.sound.objects g)) is
  edit_releases (Deaden l e) known f is = one_typed s f (number_names (s.number l)) (number_typed l (s.number l) refl) is
  edit_releases Pop known f is = one_typed s f (take 1 (thread_of s d).stack)
      (take_typed s (thread_of s d).stack (own_typed (s.frame (s.core d).thread) known.fit (h.sound.objects (s.core d).thread))) is
  edit_releases (Switch g q) known f is = one_typed s f
      ((s.core d).thread ∷ (if q == (s.core d).tcap then [] else (s.core d).tcap ∷ [])) (left_typed (q == (s.core d).tcap)) is
  edit_releases _ known f is = absurd (false≢true is)

  edits_release : (es : List Edit) → Calm d s es → Each Known d s es → (f : ℕ)
      → list_any (same_thing (FrameOf f)) (begins_all d s es) ≡ true → IsTrue (is_typed (s.frame f))
  edits_release [] calm known f is = absurd (false≢true is)
  edits_release (e ∷ es) calm known f is = edit_releases e known.0 f (sym (ap (list_any (same_thing (FrameOf f))) calm.0) ∙ is)

  releases_by : (call : Call) (v : Value) (es : List Edit) → Edits call d s es → ReleasesTyped s (does d s v es)
  releases_by call v es e f is = edits_release es e.calm (e.known o h) f is

  found_releases : (x : Judged Change) → IfFound x (ReleasesTyped s)
      → (f : ℕ) → begun_in x (FrameOf f) ≡ true → IsTrue (is_typed (s.frame f))
  found_releases (Refused r) by f is = absurd (false≢true is)
  found_releases (Found change) by f is = by f is

  -- The grace period of a frame begins only where it is something.
  pub begins_typed : (call : Call) (r : Reply) (f : ℕ) → begins s d call r (FrameOf f) ≡ true → IsTrue (is_typed (s.frame f))
  begins_typed call (Reply.Ok v) f is =
      found_releases (change_of s d call) (found_by s d call (ReleasesTyped s) (releases_by call)) f is
  begins_typed call _ f is = absurd (false≢true is)

-- A decision that ends a grace period does not begin it.
not_among : (f : ℕ) (fs : List ℕ) → times f fs ≡ 0 → list_any (same_thing (FrameOf f)) (frames_of fs) ≡ false
not_among f [] none = refl
not_among f (g ∷ fs) none = by_first (f == g) refl (not_among f fs (let p = times_cons f g fs in omega (arith, p, none)))
  where
    away : f ≡ g → ⊥
    away same =
        let one : 1 ≤ times f (f ∷ fs) = times_first f fs in
        let at : times f (f ∷ fs) ≡ 0 = ap (λ n. times f (n ∷ fs)) same ∙ none in
        omega (arith, one, at)

    by_first : (b : Bool) → (f == g) ≡ b → list_any (same_thing (FrameOf f)) (frames_of fs) ≡ false
        → (b || list_any (same_thing (FrameOf f)) (frames_of fs)) ≡ false
    by_first true same rest = absurd (away (eqb-true f g same))
    by_first false same rest = rest

abbrev BeginsNot : Thing → Change → Type 0
BeginsNot x change = list_any (same_thing x) change.begins ≡ false

found_not : (y : Judged Change) (x : Thing) → IfFound y (BeginsNot x) → begun_in y x ≡ false
found_not (Refused r) x not = refl
found_not (Found change) x not = not

own_names : (s : State) (o : ℕ → Bool) (f : ℕ) → IsSound s o → refs s f ≡ 0 → times f (frame_names (s.frame f)) ≡ 0
own_names s o f h none = elim (cases_lt f s.limits.frames) [
  | inl below ↦ (unnamed s f none).objects f below
  | inr past ↦ ap (λ x. times f (frame_names x)) (h.beyond f past)
]

edit_begins : (s : State) (o : ℕ → Bool) (d : ℕ) → IsOpen s o d → (e : Edit) → Known d s e → (x : Thing) → ends_in e x ≡ true
    → list_any (same_thing x) (begins_in d s e) ≡ false
edit_begins s o d h (Node f object) k x is = refl
edit_begins s o d h (Untype f) k (FrameOf g) is = not_among g (frame_names (s.frame f))
    (ap (λ n. times n (frame_names (s.frame f))) (eqb-true g f is) ∙ own_names s o f h.sound k.unnamed)
edit_begins s o d h _ k x is = absurd (false≢true is)

edits_begin : (s : State) (o : ℕ → Bool) (d : ℕ) → IsOpen s o d → (es : List Edit) → Calm d s es → Each Known d s es → (x : Thing)
    → ends_all es x ≡ true → list_any (same_thing x) (begins_all d s es) ≡ false
edits_begin s o d h [] calm k x is = refl
edits_begin s o d h (e ∷ es) calm k x is =
    ap (list_any (same_thing x)) calm.0 ∙ edit_begins s o d h e k.0 x (sym (calm.1 x) ∙ is)

pub ends_begins : (s : State) (o : ℕ → Bool) (d : ℕ) (call : Call) (r : Reply) (x : Thing)
    → IsOpen s o d → MayReply s d call r → ends call r x ≡ true → begins s d call r x ≡ false
ends_begins s o d call (Reply.Ok v) x h may is =
    found_not (change_of s d call) x (found_by s d call (BeginsNot x) (λ v es e.
    edits_begin s o d h es e.calm (e.known o h) x (sym (e.agrees.0 x) ∙ is)))
ends_begins s o d call _ x h may is = absurd (false≢true is)
