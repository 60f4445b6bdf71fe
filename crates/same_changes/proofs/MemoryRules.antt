-- The calls on memory come to the same on a region.
use Rattle.kernel_laws.proofs.{◌≡◌, ℕ, ◌+◌, ◌<◌, ◌≤◌, Bool, true, not, refl, sym, ◌∙◌, ap, subst, arith, ltb as nat_lt}
use Rattle.kernel_laws.proofs.{zero, suc, [], Option, Some, None, is_some, IsTrue, lt-ltb, Capability, FrameKind, PageFlags, Translation}
use Rattle.kernel_laws.proofs.{Object, Blank, Table, Leaf, Pages, Pleaf, Comp, Thread, Tcap, Frame, Untyped, User, Kernel, CompFields}
use Rattle.kernel_laws.proofs.{State, comp_of, to_use, found, only, held_in, Found, named, refusal_of, first_cause, outside, is_untyped}
use Rattle.kernel_laws.proofs.{is_user, is_empty, not_retyped, retype_rule, translation_of, touch_by, is_node, named_fit, Kind, Reply}
use Rattle.kernel_laws.specs.kernel_rules.specs.MemoryCalls.{is_empty_object, touch_rule}
use Rattle.same_changes.proofs.Reaching.{Twins, TwinsOn, pages_node, core_agree, comp_agree, pages_in, pages_at, range_at, frame_agree}
use Rattle.{same_changes.specs.whole, same_changes.specs.AgreeOn, kernel_laws.specs.kernel_rules.specs.holds_nothing}
use Rattle.{kernel_laws.specs.kernel_rules.specs.map_rule, std.specs.List.list_any, std.specs.List.range_with_len}
use Rattle.{kernel_laws.specs.kernel_invariant.proofs.Facts.none_parts, same_changes.specs.Region.Region}
use Rattle.{same_changes.proofs.Agreeing.on_whole, same_changes.proofs.Alike.SameRule}

-- ---- empty frames

any_same : (p q : ℕ → Bool) (a n : ℕ) → ((i : ℕ) → a ≤ i → i < a + n → p i ≡ q i)
    → list_any p (range_with_len a n) ≡ list_any q (range_with_len a n)
any_same p q a zero same = refl
any_same p q a (suc n) same =
    let rest = any_same p q (a + 1) n (λ i least less. same i (omega (arith, least)) (omega (arith, less))) in
    λ i. (Rattle.std.specs.Prelude.◌||◌) (same a (omega arith) (omega arith) i) (rest i)

nothing_agree : {r : Region} (t s : State) (f : ℕ) → r.frame f ≡ true → AgreeOn r t s → holds_nothing t f ≡ holds_nothing s f
unfolding holds_nothing
nothing_agree t s f is e = ap not (any_same (λ i. is_some (held_in (t.place f i))) (λ i. is_some (held_in (s.place f i))) 0 64
    (λ i least less. ap (λ p. is_some (held_in p)) (e.place f i is (omega (arith, less)))))

object_agree : {r : Region} (t s : State) (f : ℕ) (x : Object) → r.frame f ≡ true → AgreeOn r t s
    → is_empty_object t f x ≡ is_empty_object s f x
object_agree t s f Blank is e = refl
object_agree t s f (Comp k) is e = refl
object_agree t s f (Thread k) is e = refl
object_agree t s f (Tcap q) is e = refl
object_agree t s f Table is e = nothing_agree t s f is e
object_agree t s f Leaf is e = nothing_agree t s f is e
object_agree t s f Pages is e = nothing_agree t s f is e
object_agree t s f Pleaf is e = nothing_agree t s f is e

pub empty_agree : {r : Region} (t s : State) (f : ℕ) (x : Frame) → r.frame f ≡ true → AgreeOn r t s → is_empty t f x ≡ is_empty s f x
empty_agree t s f Untyped is e = refl
empty_agree t s f User is e = refl
empty_agree t s f (Kernel x) is e = object_agree t s f x is e

-- ---- retyping

module _ {r : Region} {t s : State} {o : ℕ → Bool} {c : ℕ} (w : TwinsOn r t s o c) where
  pub retype_same : (p f : ℕ) (k : FrameKind) → SameRule r s c (retype_rule t p f k) (retype_rule s p f k)
  retype_same p f FrameKind.Untyped = (
    refl,
    refl,
    λ range is. (
      (
        (refl, λ on. refl),
        λ inside.
            let is_in = range_at w p range f is inside in (
              (frame_agree w f is_untyped is_in, λ on. refl),
              λ calm. (
                (ap (nat_lt 0) (w.referred f is_in), λ on. ap Reply.Referenced (w.referred f is_in)),
                λ calm. (
                  (refl, is_in),
                  λ calm. (
                    (refl, is_in),
                    λ calm. (
                      (
                        ap not (ap (is_empty t f) (w.agree.frame f is_in) ∙ empty_agree t s f (s.frame f) is_in w.agree),
                        λ on. refl,
                      ),
                      λ calm. tt,
                    ),
                  ),
                ),
              ),
            ),
      ),
      λ none.
          let is_in = range_at w p range f is (none_parts (refusal_of s c (outside (found range) f))
          (first_cause s c (not_retyped s f FrameKind.Untyped)) none).0 in
          (refl, refl, (is_in, tt)),
    ),
  )
  retype_same p f FrameKind.User = (
    refl,
    refl,
    λ range is. (
      (
        (refl, λ on. refl),
        λ inside. ((frame_agree w f (λ x. not (is_untyped x)) (range_at w p range f is inside), λ on. refl), λ calm. tt),
      ),
      λ none. (refl, refl, (tt, tt)),
    ),
  )
  retype_same p f FrameKind.Kernel = (
    refl,
    refl,
    λ range is. (
      (
        (refl, λ on. refl),
        λ inside. ((frame_agree w f (λ x. not (is_untyped x)) (range_at w p range f is inside), λ on. refl), λ calm. tt),
      ),
      λ none. (refl, refl, (tt, tt)),
    ),
  )

  -- ---- pages

  pub map_same : (m v p f : ℕ) (flags : PageFlags) → SameRule r s c (map_rule t m v p f flags) (map_rule s m v p f flags)
  map_same m v p f flags = (
    refl,
    refl,
    λ pages is_pages. (
      refl,
      refl,
      λ range is. (
        refl,
        (λ on. pages_at w m pages is_pages),
        λ at is_free. (
          (
            (refl, λ on. refl),
            λ inside. ((frame_agree w f (λ x. not (is_user x)) (range_at w p range f is inside), λ on. refl), λ calm. tt),
          ),
          λ none. (refl, refl, (tt, tt)),
        ),
      ),
    ),
  )

  touched_same : (v : ℕ) (tr : Option Translation)
      → SameRule r s c (touch_by (comp_of s c).pages v tr) (touch_by (comp_of s c).pages v tr)
  touched_same v (Some tr) = (((refl, λ on. refl), λ calm. tt), λ none. (refl, refl, tt))
  touched_same v None = (
    refl,
    refl,
    pages_in w,
    λ mapping is. (tt, λ none. (refl, refl, (tt, tt))),
  )

  pub touch_same : (v : ℕ) → SameRule r s c (touch_rule t c v) (touch_rule s c v)
  touch_same v =
      let pages : (comp_of t c).pages ≡ (comp_of s c).pages = ap (λ (k : CompFields). k.pages) (comp_agree w) in
      let tr : translation_of (t.core c).cached (comp_of t c).pages v ≡ translation_of (s.core c).cached (comp_of s c).pages v = λ i.
      translation_of (core_agree w i).cached (pages i) v in
      subst (λ x. SameRule r s c x (touch_rule s c v)) (λ i. touch_by (sym pages i) v (sym tr i))
      (touched_same v (translation_of (s.core c).cached (comp_of s c).pages v))

-- ---- the whole machine

module _ {t s : State} {o : ℕ → Bool} {c : ℕ} (w : Twins t s o c) where
  pub named_pages : (n : ℕ) (k : Capability) → named s c n (to_use (only Kind.Pages)) ≡ Found k → IsTrue (is_node (s.frame k.frame))
  named_pages n k is = pages_node (s.frame k.frame) (named_fit s o c n Kind.Pages k w.sound w.is_open is)

  pub empty_same : (f : ℕ) (x : Frame) → f < s.limits.frames → is_empty t f x ≡ is_empty s f x
  empty_same f x below = empty_agree {r = whole s.limits} t s f x (lt-ltb f s.limits.frames below) (on_whole t s w.same)
