-- A decision of a core that works outside a sealed world leaves it alone.
use Rattle.authority_laws.specs as low
use low.kernel_laws.proofs.{◌≡◌, ◌≢◌, ◌⊎◌, inl, inr, ℕ, Bool, true, false, refl, sym, ◌∙◌, ap, subst, IsTrue, List, ◌∷◌, Option, false≢true}
use low.kernel_laws.proofs.{Setting, IsSetting, Capability, Kind, Call, Reply, Comp, Thread, Tcap, Frame, Kernel, Live, State, comp_in}
use low.kernel_laws.proofs.{thread_in, tcap_in, is_live, is_live_in, fits, Event, Decides, after, is_open, IsRun, IsOpen, opened, open_is}
use low.{Part, PlaceIs, FrameIs, StackIs, RunsIs, BudgetIs, ListIs, NumberIs, CoreIs, bare_of, Over, OwnBy, IsUnderOne, SamePart, Stays}
use Rattle.world_laws.specs.{works_in, lives_at, gates, IsSealed, LeavesAlone, IsOf}
use Rattle.world_laws.proofs.{Puts.PutFrom, Puts.decided_put, Living.LivesFor, Living.life_from, Living.lives_for, Links.links_have_both}
use Rattle.world_laws.proofs.{Outside.WorksOutside, Outside.works_outside, Outside.may_out, Outside.range_out, Outside.under_out}
use Rattle.{authority_laws.proofs.DecidedParts.calls_change_their_own, world_laws.specs.Laws.LentAlone, world_laws.specs.Laws.OutsideLeaves}

-- ---- frames that have the same parts are the same

thread_back : (x y : Frame) → bare_of y ≡ bare_of x → IsTrue (fits Kind.Thread x) → IsTrue (fits Kind.Thread y)
thread_back x y e h = sym (bare_fit y) ∙ ap (fits Kind.Thread) e ∙ bare_fit x ∙ h
  where
    bare_fit : (x : Frame) → fits Kind.Thread (bare_of x) ≡ fits Kind.Thread x
    bare_fit (Kernel (Thread t)) = refl
    bare_fit (Kernel (Tcap q)) = refl
    bare_fit _ = refl

tcap_back : (x y : Frame) → bare_of y ≡ bare_of x → IsTrue (fits Kind.Tcap x) → IsTrue (fits Kind.Tcap y)
tcap_back x y e h = sym (bare_fit y) ∙ ap (fits Kind.Tcap) e ∙ bare_fit x ∙ h
  where
    bare_fit : (x : Frame) → fits Kind.Tcap (bare_of x) ≡ fits Kind.Tcap x
    bare_fit (Kernel (Thread t)) = refl
    bare_fit (Kernel (Tcap q)) = refl
    bare_fit _ = refl

-- A frame by its parts.
rebuilt : Frame → List ℕ → Option ℕ → ℕ → List (ℕ × ℕ) → Frame
rebuilt (Kernel (Thread t)) stack runs budget list = Kernel (Thread (record { stack = stack; runs_on = runs }))
rebuilt (Kernel (Tcap q)) stack runs budget list = Kernel (Tcap (record { budget = budget; qualities = list }))
rebuilt x stack runs budget list = x

rebuild : (x : Frame) → rebuilt (bare_of x) (thread_in x).stack (thread_in x).runs_on (tcap_in x).budget (tcap_in x).qualities ≡ x
unfolding rebuilt
rebuild (Kernel (Thread t)) = refl
rebuild (Kernel (Tcap q)) = refl
rebuild _ = refl

thread_same : {a b : List ℕ} {u v : Option ℕ} → a ≡ b → u ≡ v
    → Kernel (Thread (record { stack = a; runs_on = u })) ≡ Kernel (Thread (record { stack = b; runs_on = v }))
thread_same p q = λ i. Kernel (Thread (record { stack = p i; runs_on = q i }))

tcap_same : {a b : ℕ} {u v : List (ℕ × ℕ)} → a ≡ b → u ≡ v
    → Kernel (Tcap (record { budget = a; qualities = u })) ≡ Kernel (Tcap (record { budget = b; qualities = v }))
tcap_same p q = λ i. Kernel (Tcap (record { budget = p i; qualities = q i }))

pub record SameParts (x y : Frame) : Type 0 where
  pub bare : bare_of y ≡ bare_of x
  pub stack : Stays Kind.Thread x y → (thread_in y).stack ≡ (thread_in x).stack
  pub runs : Stays Kind.Thread x y → (thread_in y).runs_on ≡ (thread_in x).runs_on
  pub budget : Stays Kind.Tcap x y → (tcap_in y).budget ≡ (tcap_in x).budget
  pub list : Stays Kind.Tcap x y → (tcap_in y).qualities ≡ (tcap_in x).qualities

pub same_frame : (x y : Frame) → SameParts x y → y ≡ x
unfolding rebuilt
same_frame (Kernel (Thread t)) y h =
    let stays : Stays Kind.Thread (Kernel (Thread t)) y = (refl, thread_back (Kernel (Thread t)) y h.bare refl) in
    sym (rebuild y)
    ∙ ap (λ b. rebuilt b (thread_in y).stack (thread_in y).runs_on (tcap_in y).budget (tcap_in y).qualities) h.bare
    ∙ thread_same (h.stack stays) (h.runs stays)
same_frame (Kernel (Tcap q)) y h =
    let stays : Stays Kind.Tcap (Kernel (Tcap q)) y = (refl, tcap_back (Kernel (Tcap q)) y h.bare refl) in
    sym (rebuild y)
    ∙ ap (λ b. rebuilt b (thread_in y).stack (thread_in y).runs_on (tcap_in y).budget (tcap_in y).qualities) h.bare
    ∙ tcap_same (h.budget stays) (h.list stays)
same_frame _ y h =
    sym (rebuild y) ∙ ap (λ b. rebuilt b (thread_in y).stack (thread_in y).runs_on (tcap_in y).budget (tcap_in y).qualities) h.bare

-- ---- what core c may change lies outside

module _ (w : ℕ → Bool) (s : State) (c : ℕ) (h : WorksOutside w s c) where
  -- a part of the world is in the frame of none
  inside_out : (f : ℕ) → w f ≡ true → w f ≡ false → ⊥
  inside_out f inside out = false≢true (sym out ∙ inside)

  over_out : {call : Call} (x : Part) → IsOf w x → IsUnderOne call s c x → ⊥
  over_out x of one = by_kind one.cap.kind refl x one.over of
    where
      by_kind : (j : Kind) → one.cap.kind ≡ j → (x : Part) → Over s c j one.cap x → IsOf w x → ⊥
      by_kind Kind.Table is (PlaceIs f i) over of =
          inside_out f of (under_out w s c h one.cap.frame f (may_out w s c h one.cap Kind.Table one.cap.frame one.may is refl refl) over)
      by_kind Kind.Pages is (PlaceIs f i) over of =
          inside_out f of (under_out w s c h one.cap.frame f (may_out w s c h one.cap Kind.Pages one.cap.frame one.may is refl refl) over)
      by_kind Kind.Range is (PlaceIs f i) over of = inside_out f of (may_out w s c h one.cap Kind.Range f one.may is refl over)
      by_kind Kind.Range is (FrameIs f) over of = inside_out f of (may_out w s c h one.cap Kind.Range f one.may is refl over)
      by_kind Kind.Range is (NumberIs l) over of = of
      by_kind Kind.Comp is (NumberIs l) over of = of
      by_kind Kind.Thread is (RunsIs f) over of = inside_out f of (may_out w s c h one.cap Kind.Thread f one.may is refl over)
      by_kind Kind.Tcap is (BudgetIs f) over of = inside_out f of (may_out w s c h one.cap Kind.Tcap f one.may is refl over)
      by_kind Kind.Tcap is (ListIs f) over of = inside_out f of (may_out w s c h one.cap Kind.Tcap f one.may is refl over)
      by_kind _ is _ over of = over

-- ---- a decision

module _ (setting : Setting) (lim : IsSetting setting) (events : List Event) (c : ℕ) (call : Call) (r : Reply)
    (run : IsRun setting (Decides c call r ∷ events)) (w : ℕ → Bool) (sealed : IsSealed w gates (after setting events))
    (out : w (works_in (after setting events) c) ≡ false) where
  abbrev s : State
  s = after setting events

  abbrev t : State
  t = after setting (Decides c call r ∷ events)

  pub opened_call : IsOpen s (opened events) c
  opened_call = open_is setting lim events c run.0 (ap is_open run.1.is_open)

  pub outside : WorksOutside w s c
  outside = works_outside w s c (opened events) opened_call (links_have_both setting lim events run.0) sealed out

  puts : PutFrom call s c t
  puts = decided_put s c (opened events) opened_call call r run.1.permitted

  lent : (x : Part) → IsOf w x → SamePart s t x ⊎ OwnBy call s c x
  lent x of = elim (calls_change_their_own setting lim events c call r run x) [
    | inl same ↦ inl same
    | inr (inl own) ↦ inr own
    | inr (inr one) ↦ absurd (over_out w s c outside x of one)
  ]

  -- what is not core c's own stays
  stays : (x : Part) → IsOf w x → (OwnBy call s c x → ⊥) → SamePart s t x
  stays x of not_own = elim (lent x of) [
    | inl same ↦ same
    | inr own ↦ absurd (not_own own)
  ]

  frame_stays : (f : ℕ) → w f ≡ true → f ≢ (s.core c).thread → f ≢ (s.core c).tcap → t.frame f ≡ s.frame f
  frame_stays f of not_thread not_tcap = same_frame (s.frame f) (t.frame f) (record {
    bare = stays (FrameIs f) of (λ own. own);
    stack = stays (StackIs f) of (λ own. not_thread own.0);
    runs = stays (RunsIs f) of (λ own. not_thread own.0);
    budget = stays (BudgetIs f) of (λ own. not_tcap own.0);
    list = stays (ListIs f) of (λ own. own);
  })

  core_stays : (d : ℕ) → d ≢ c → t.core d ≡ s.core d
  core_stays d other = elim (calls_change_their_own setting lim events c call r run (CoreIs d)) [
    | inl same ↦ same
    | inr (inl own) ↦ absurd (other own)
    | inr (inr one) ↦ absurd (no_core one.cap.kind one.cap one.over)
  ]
    where
      no_core : (j : Kind) (k : Capability) → Over s c j k (CoreIs d) → ⊥
      no_core Kind.Range k over = over
      no_core _ k over = over

  -- the frame of a component is not that of the core's thread or temporal capability
  comp_apart : (f : ℕ) → IsTrue (fits Kind.Comp (s.frame f)) → (f ≢ (s.core c).thread) × (f ≢ (s.core c).tcap)
  comp_apart f fit =
      let own = opened_call.sound.cores c (opened_call.sound.inside c opened_call.is).1 in (
        λ same. no_both (s.frame f) fit (subst (λ n. IsTrue (fits Kind.Thread (s.frame n))) (sym same) own.0),
        λ same. nor_both (s.frame f) fit (subst (λ n. IsTrue (fits Kind.Tcap (s.frame n))) (sym same) own.1),
      )
    where
      no_both : (x : Frame) → IsTrue (fits Kind.Comp x) → IsTrue (fits Kind.Thread x) → ⊥
      no_both (Kernel (Comp k)) a b = false≢true b
      no_both _ a b = false≢true a

      nor_both : (x : Frame) → IsTrue (fits Kind.Comp x) → IsTrue (fits Kind.Tcap x) → ⊥
      nor_both (Kernel (Comp k)) a b = false≢true b
      nor_both _ a b = false≢true a

  comp_is : (x : Frame) → IsTrue (fits Kind.Comp x) → x ≡ Kernel (Comp (comp_in x))
  comp_is (Kernel (Comp k)) fit = refl
  comp_is _ fit = absurd (false≢true fit)

  -- no component of the world comes to life
  life_before : (f : ℕ) → w f ≡ true → lives_at t f ≡ true → lives_at s f ≡ true
  life_before f of lives =
      let h : LivesFor t f = lives_for setting lim (Decides c call r ∷ events) run f lives in
      elim (puts.comp f (comp_in (t.frame f)) (comp_is (t.frame f) h.comp)) [
        | inr made ↦ absurd (inside_out w s c outside f of (range_out w s c outside f made.0))
        | inl was ↦ elim (puts.live (comp_in (t.frame f)).number (comp_in (t.frame f)).epoch f h.live) [
          | inr range ↦ absurd (inside_out w s c outside f of (range_out w s c outside f range))
          | inl live ↦
              let fields = ap comp_in was in
              life_from s f (record {
                comp = ap (fits Kind.Comp) was;
                live = subst (λ k. s.number k.number ≡ Live k.epoch f) (sym fields) live;
              })
        ]
      ]

  -- and none dies
  life_after : (f : ℕ) → w f ≡ true → lives_at s f ≡ true → lives_at t f ≡ true
  life_after f of lives =
      let h : LivesFor s f = lives_for setting lim events run.0 f lives in
      let apart = comp_apart f h.comp in
      let same : t.frame f ≡ s.frame f = frame_stays f of apart.0 apart.1 in
      let fields = ap comp_in same in
      life_from t f (record {
        comp = ap (fits Kind.Comp) same ∙ h.comp;
        live = subst (λ k. t.number k.number ≡ Live k.epoch f) (sym fields) (number_stays f of h ∙ h.live);
      })
    where
      live_inj : (e d f g : ℕ) → Live e f ≡ Live d g → f ≡ g
      live_inj e d f g q = cc

      by_kind : (f : ℕ) → w f ≡ true → LivesFor s f → (one : IsUnderOne call s c (NumberIs (comp_in (s.frame f)).number)) → (j : Kind)
          → one.cap.kind ≡ j → Over s c j one.cap (NumberIs (comp_in (s.frame f)).number) → ⊥
      by_kind f of h one Kind.Range is none = false≢true (sym none ∙ ap is_live h.live)
      by_kind f of h one Kind.Comp is by =
          let g : ℕ = one.cap.frame in
          let l : ℕ = (comp_in (s.frame f)).number in
          let other : LivesFor s g = lives_for setting lim events run.0 g
          (subst (λ n. is_live_in (s.number n) (comp_in (s.frame g)).epoch ≡ true) (sym by.0) by.1) in
          let same : Live (comp_in (s.frame g)).epoch g ≡ Live (comp_in (s.frame f)).epoch f =
          sym other.live ∙ ap s.number by.0 ∙ h.live in
          inside_out w s c outside f of (ap w (sym (live_inj _ _ g f same))
          ∙ may_out w s c outside one.cap Kind.Comp g one.may is refl refl)
      by_kind f of h one _ is over = over

      number_stays : (f : ℕ) → w f ≡ true → LivesFor s f → t.number (comp_in (s.frame f)).number ≡ s.number (comp_in (s.frame f)).number
      number_stays f of h = elim (calls_change_their_own setting lim events c call r run (NumberIs (comp_in (s.frame f)).number)) [
        | inl same ↦ same
        | inr (inl own) ↦ absurd own
        | inr (inr one) ↦ absurd (by_kind f of h one one.cap.kind refl one.over)
      ]

  life_stays : (f : ℕ) → w f ≡ true → lives_at t f ≡ lives_at s f
  life_stays f of = both (lives_at t f) (lives_at s f) (life_before f of) (life_after f of)
    where
      both : (a b : Bool) → (a ≡ true → b ≡ true) → (b ≡ true → a ≡ true) → a ≡ b
      both true b go back = sym (go refl)
      both false true go back = back refl
      both false false go back = refl

  pub leaves_alone : LeavesAlone w s t c
  leaves_alone = record {
    frame = frame_stays;
    place = λ f i of. stays (PlaceIs f i) of (λ own. own);
    life = life_stays;
    core = core_stays;
  }

pub outside_leaves : OutsideLeaves
outside_leaves setting lim events c call r run w sealed out = leaves_alone setting lim events c call r run w sealed out

pub lent_alone : LentAlone
lent_alone setting lim events c call r run w sealed out = lent setting lim events c call r run w sealed out
