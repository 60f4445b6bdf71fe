-- The calls on capabilities come to the same on a region.
use Rattle.kernel_laws.proofs.{◌≡◌, ℕ, ◌+◌, ◌==◌, Bool, true, false, not, ◌&&◌, refl, ◌∙◌, ap, ltb as nat_lt, [], ◌∷◌}
use Rattle.kernel_laws.proofs.{IsTrue, ltb-true, Capability, Kind, Make as make_call, Object, Table, Leaf, Pages, Pleaf, Frame, Limits}
use Rattle.kernel_laws.proofs.{State, plain_cap, to_use, root, Fill, Component, Found, named, is_blank, not_blank, is_live, epoch_of}
use Rattle.kernel_laws.proofs.{make_rule, is_node, named_good}
use Rattle.kernel_laws.specs.kernel_rules.specs.{Make, make_node}
use Rattle.kernel_laws.specs.kernel_rules.specs.CapabilityCalls.{make_comp}
use Rattle.same_changes.proofs.Reaching.{Twins, TwinsOn, table_at, range_at, frame_agree}
use Rattle.{kernel_laws.specs.kernel_invariant.proofs.SoundCalls.root_node, same_changes.specs.Region.Region}
use Rattle.{same_changes.specs.Region.NamesIn, same_changes.proofs.Alike.SameCause, same_changes.proofs.Alike.SameRule}

module _ {r : Region} {t s : State} {o : ℕ → Bool} {c : ℕ} (w : TwinsOn r t s o c) where
  -- ---- making

  not_blank_same : (f : ℕ) → r.frame f ≡ true → SameCause r (not_blank t f) (not_blank s f)
  not_blank_same f is = (frame_agree w f (λ x. not (is_blank x)) is, λ on. refl)

  make_node_same : (object : Object) (k : Kind) (p f x b : ℕ)
      → SameRule r s c (make_node t object k p f x b) (make_node s object k p f x b)
  make_node_same object k p f x b = (
    refl,
    refl,
    λ range is. (
      refl,
      refl,
      λ table is_table. (
        refl,
        (λ on. table_at w x table is_table),
        λ at is_free. (
          ((refl, λ on. refl), λ inside. (not_blank_same f (range_at w p range f is inside), λ calm. tt)),
          λ none. (refl, refl, (tt, (tt, tt))),
        ),
      ),
    ),
  )

  make_comp_same : (p f x b y q l : ℕ) → r.number l ≡ true → SameRule r s c (make_comp t p f x b y q l) (make_comp s p f x b y q l)
  make_comp_same p f x b y q l is_in =
      let number = w.agree.number l is_in in (
        refl,
        refl,
        λ range is. (
          refl,
          refl,
          λ table is_table. (
            refl,
            refl,
            λ own_table is_own. (
              refl,
              refl,
              λ own_pages is_pages. (
                refl,
                (λ on. table_at w x table is_table),
                λ at is_free. (
                  (
                    (refl, λ on. refl),
                    λ inside. (
                      not_blank_same f (range_at w p range f is inside),
                      λ calm. (
                        (ap is_live number, λ on. refl),
                        λ calm. (
                          (refl, is_in),
                          λ calm. (((λ i. epoch_of (number i) == (w.agree.limits i).epochs), λ on. refl), λ calm. tt),
                        ),
                      ),
                    ),
                  ),
                  λ none. (
                    refl,
                    ap (λ n. Component f (record { table = own_table.frame; pages = own_pages.frame; number = l; epoch = epoch_of n + 1 })
                        ∷ Fill at (plain_cap Kind.Comp f) ∷ []) number,
                    (tt, (tt, tt)),
                  ),
                ),
              ),
            ),
          ),
        ),
      )

  pub make_same : (what : Make) (p f x b : ℕ) → NamesIn r (make_call what p f x b)
      → SameRule r s c (make_rule t what p f x b) (make_rule s what p f x b)
  make_same Make.Table p f x b names = make_node_same Table Kind.Table p f x b
  make_same Make.Leaf p f x b names = make_node_same Leaf Kind.Leaf p f x b
  make_same Make.Pages p f x b names = make_node_same Pages Kind.Pages p f x b
  make_same Make.Pleaf p f x b names = make_node_same Pleaf Kind.Pleaf p f x b
  make_same (Make.Thread comp) p f x b names = (
    refl,
    refl,
    λ range is. (
      refl,
      refl,
      λ table is_table. (
        refl,
        refl,
        λ k is_comp. (
          refl,
          (λ on. table_at w x table is_table),
          λ at is_free. (
            ((refl, λ on. refl), λ inside. (not_blank_same f (range_at w p range f is inside), λ calm. tt)),
            λ none. (refl, refl, (tt, (tt, tt))),
          ),
        ),
      ),
    ),
  )
  make_same (Make.Tcap sched quality) p f x b names = (
    refl,
    refl,
    λ range is. (
      refl,
      refl,
      λ table is_table. (
        refl,
        (λ on. table_at w x table is_table),
        λ at is_free. (
          ((refl, λ on. refl), λ inside. (not_blank_same f (range_at w p range f is inside), λ calm. tt)),
          λ none. (refl, refl, (tt, (tt, tt))),
        ),
      ),
    ),
  )
  make_same (Make.Comp y q l) p f x b names = make_comp_same p f x b y q l names

-- ---- the whole machine

module _ {t s : State} {o : ℕ → Bool} {c : ℕ} (w : Twins t s o c) where
  -- A named root is a node.
  pub root_named : (n : ℕ) (k : Capability) → named s c n (to_use root) ≡ Found k → IsTrue (is_node (s.frame k.frame))
  root_named n k is =
      let good = named_good s o c n (to_use root) k w.sound w.is_open is in
      root_node k.kind (s.frame k.frame) good.1 good.0.fit

  -- A cause about one of the machine's frames.
  pub frame_test : (f : ℕ) (test : Frame → Bool)
      → (nat_lt f t.limits.frames && test (t.frame f)) ≡ (nat_lt f s.limits.frames && test (s.frame f))
  frame_test f test = ap (λ (l : Limits). nat_lt f l.frames && test (t.frame f)) w.same.limits
      ∙ by_frame (nat_lt f s.limits.frames) refl
    where
      by_frame : (b : Bool) → nat_lt f s.limits.frames ≡ b → (b && test (t.frame f)) ≡ (b && test (s.frame f))
      by_frame true is = ap test (w.same.frame f (ltb-true f s.limits.frames is))
      by_frame false is = refl
