-- A decision of a core that works outside a world that is split leaves all of the world as it is, but that its flush passes grace periods.
use Rattle.same_changes.specs.kernel_laws.proofs as low
use low.{◌≡◌, ◌≢◌, ◌⊎◌, inl, inr, ℕ, ◌<◌, Bool, true, false, cond, refl, sym, ◌∙◌, ap, subst, arith, List, [], ◌∷◌, false≢true, eqb-true}
use low.{Setting, IsSetting, Capability, Call, Retype, Make as make_call, Reply, Liveness, Live, Dead, Thing, PlaceOf, FrameOf, NumberOf}
use low.{State, comp_in, no_grace, place_names, frame_names, number_names, core_names, times, same_thing, new_grace, Change, Judged}
use low.{Refused, Found, IsFoundAnd, is_live, not_blank, is_place_of, Edit, Fill, Component, Deaden, Merge, edited, after_edits}
use low.{not_retyped, is_live_in, begins, ends, ends_by, flushes, rule_of, change_of, MayReply, Event, Decides, after, is_open, IsRun}
use low.{IfFound, put_all, IsOpen, opened, open_is, ChangesFrom, outcome_from, flushed_by, grace_is, AreLater, Calm, Kind, FrameKind}
use Rattle.world_laws.specs.authority_laws.specs.{Part, PlaceIs, FrameIs, NumberIs, CoreIs, MayUse}
use Rattle.split_laws.specs.{World, IsSplit, side, MakesOwn}
use Rattle.world_laws.specs.authority_laws.proofs.{InRange, By, EachBy, decided_from}
use Rattle.world_laws.specs.{gates, IsSealed, LeavesAlone}
use Rattle.world_laws.specs.authority_laws.specs.{Authority.LivesBy, Graces.names_of, Graces.HasCause}
use Rattle.world_laws.proofs.{Living.LivesFor, Living.lives_for, Outside.WorksOutside, Outside.may_out, Outside.range_out, Leaving.outside}
use Rattle.split_laws.proofs.{Working.WorksOn, Working.works_on, Working.comp_is, Working.range_frame, Splitting.split_for_good}
use Rattle.split_laws.proofs.{Referring.numbers_on, Referring.place_none, Referring.frame_none, Referring.core_none, Referring.number_none}
use Rattle.{std.proofs.lemmas.Bool.cases_eq, world_laws.specs.kernel_invariant.proofs.SoundSteps.holds_quiescing}
use Rattle.{world_laws.specs.state_laws.specs.Lives.IsCompOf, world_laws.specs.state_laws.proofs.Lives.live_numbers_fit}
use Rattle.{world_laws.specs.authority_laws.proofs.Causes.graces_have_cause, world_laws.proofs.Leaving.outside_leaves}
use Rattle.{world_laws.specs.spk_nums.specs.declared.calls.Make.Make, split_laws.specs.Split.is_of}

-- ---- what becomes of a liveness number

module _ (call : Call) (s : State) (c : ℕ) where
  -- It is as it was; or its component is killed; or it is live for a frame of a range.
  abbrev Killed : ℕ → Type 0
  Killed l = (k : Capability) × MayUse call s c k × (k.kind ≡ Kind.Comp) × LivesBy s k.frame l

  abbrev Born : Liveness → Type 0
  Born x = (e : ℕ) × (f : ℕ) × (x ≡ Live e f) × InRange call s c f

  abbrev Becomes : ℕ → Liveness → Type 0
  Becomes l x = (x ≡ s.number l) ⊎ (Killed l ⊎ Born x)

  edit_number : (e : Edit) → By call s c e → (l : ℕ) → Becomes l ((edited c s e).number l)
  edit_number (Component f k) by l = put_all Becomes s.number k.number (Live k.epoch f) l
      (λ same. inr (inr (k.epoch, f, refl, by.0))) (λ other. inl refl)
  edit_number (Deaden n e) by l = put_all Becomes s.number n (Dead e) l
      (λ same. inr (inl (subst Killed (sym same) by))) (λ other. inl refl)
  edit_number _ by l = inl refl

  later_number : (t : State) (es : List Edit) → AreLater es → ((l : ℕ) → Becomes l (t.number l)) → (l : ℕ)
      → Becomes l ((after_edits c t es).number l)
  later_number t [] are h = h
  later_number t (Fill at k ∷ es) are h = later_number (edited c t (Fill at k)) es are h
  later_number t (Merge f qs ∷ es) are h = later_number (edited c t (Merge f qs)) es are h
  later_number t (_ ∷ es) are h = absurd are

  edits_number : (es : List Edit) → Calm c s es → EachBy call s c es → (l : ℕ) → Becomes l ((after_edits c s es).number l)
  edits_number [] calm by = λ l. inl refl
  edits_number (e ∷ es) calm by = later_number (edited c s e) es calm.2 (edit_number e by.0)

-- ---- things of frames

thing_frame : (w : World) (x : Thing) (f : ℕ) → same_thing x (FrameOf f) ≡ true → is_of w x ≡ true → w.frame f ≡ true
thing_frame w (FrameOf g) f same of = ap w.frame (sym (eqb-true g f same)) ∙ of
thing_frame w (PlaceOf g i) f same of = absurd (false≢true same)
thing_frame w (NumberOf l) f same of = absurd (false≢true same)

place_frame : (w : World) (x : Thing) (f : ℕ) → is_place_of f x ≡ true → is_of w x ≡ true → w.frame f ≡ true
place_frame w (PlaceOf g i) f same of = ap w.frame (sym (eqb-true g f same)) ∙ of
place_frame w (FrameOf g) f same of = absurd (false≢true same)
place_frame w (NumberOf l) f same of = absurd (false≢true same)

none_found : (P : Change → Type 0) (j : Judged Change) → IfFound j (λ change. ⊥) → IsFoundAnd j P → ⊥
none_found P (Refused r) none found = found
none_found P (Found change) none found = none

not_true : (b : Bool) → (b ≡ true → ⊥) → b ≡ false
not_true true never = absurd (never refl)
not_true false never = refl

-- ---- a decision

module _ (setting : Setting) (lim : IsSetting setting) (events : List Event) (c : ℕ) (call : Call) (r : Reply)
    (run : IsRun setting (Decides c call r ∷ events)) (w : World) (split : IsSplit w (after setting events))
    (out : side w (after setting events) c ≡ false) (own : MakesOwn w false call) where
  abbrev s : State
  s = after setting events

  abbrev t : State
  t = after setting (Decides c call r ∷ events)

  open_call : IsOpen s (opened events) c
  open_call = open_is setting lim events c run.0 (ap is_open run.1.is_open)

  on : WorksOn w s c (side w s c)
  on = works_on w s c (opened events) open_call split

  sealed : IsSealed w.frame gates s
  sealed = record {
    places = λ f i d k away e right crossing g leads. split.places f i d g k e leads ∙ away;
    comps = λ f k away e. let p = split.comps f k e in (p.0 ∙ away, p.1 ∙ away);
  }

  works : WorksOutside w.frame s c
  works = outside setting lim events c call r run w.frame sealed out

  alone : LeavesAlone w.frame s t c
  alone = outside_leaves setting lim events c call r run w.frame sealed out

  split_after : IsSplit w t
  split_after = split_for_good setting lim events (Decides c call r ∷ []) run w split (tt, subst (λ b. MakesOwn w b call) (sym out) own)

  within : (f : ℕ) → w.frame f ≡ false → w.frame f ≡ true → ⊥
  within f away of = false≢true (sym away ∙ of)

  -- the core's thread and temporal capability are outside
  pub thread_out : w.frame (s.core c).thread ≡ false
  thread_out = on.thread ∙ out

  pub frame_stays : (f : ℕ) → w.frame f ≡ true → t.frame f ≡ s.frame f
  frame_stays f of = alone.frame f of (λ same. within f (ap w.frame same ∙ thread_out) of)
      (λ same. within f (ap w.frame same ∙ split.cores c on.is_core ∙ thread_out) of)

  pub place_stays : (f i : ℕ) → w.frame f ≡ true → t.place f i ≡ s.place f i
  place_stays = alone.place

  pub core_stays : (d : ℕ) → d ≢ c → t.core d ≡ s.core d
  core_stays = alone.core

  -- ---- liveness numbers

  killed_out : (l : ℕ) → Killed call s c l → w.number l ≡ false
  killed_out l (k, may, is, by) =
      let lives : LivesFor s k.frame = lives_for setting lim events run.0 k.frame
      (subst (λ n. is_live_in (s.number n) (comp_in (s.frame k.frame)).epoch ≡ true) (sym by.0) by.1) in
      ap w.number (sym by.0) ∙ (split.comps k.frame (comp_in (s.frame k.frame)) (comp_is (s.frame k.frame) lives.comp)).2
      ∙ may_out w.frame s c works k Kind.Comp k.frame may is refl refl

  born_out : (l : ℕ) → Born call s c (t.number l) → w.number l ≡ false
  born_out l (e, f, is, range) =
      let fit : IsCompOf (t.frame f) l e = live_numbers_fit setting lim (Decides c call r ∷ events) run l e f is in
      ap w.number (sym fit.number) ∙ (split_after.comps f (comp_in (t.frame f)) (comp_is (t.frame f) fit.comp)).2
      ∙ range_out w.frame s c works f range

  pub number_stays : (l : ℕ) → w.number l ≡ true → t.number l ≡ s.number l
  number_stays l of = elim (numbers l) [
    | inl same ↦ same
    | inr (inl killed) ↦ absurd (false≢true (sym (killed_out l killed) ∙ of))
    | inr (inr born) ↦ absurd (false≢true (sym (born_out l born) ∙ of))
  ]
    where
      numbers : (l : ℕ) → Becomes call s c l (t.number l)
      numbers = decided_from s c (opened events) open_call call (λ u. (l : ℕ) → Becomes call s c l (u.number l)) (λ l. inl refl)
          (λ u k thread spent h. h) (λ u g h. h) (λ es calm by. edits_number call s c es calm by) r run.1.permitted

  -- ---- grace periods

  -- no part has lost a reference to a frame of the world
  module _ (f : ℕ) (of : w.frame f ≡ true) where
    no_less : (a b : List ℕ) → a ≡ b → times f a < times f b → ⊥
    no_less a b same less = let e = ap (times f) same in omega (arith, e, less)

    less_none : (a b : ℕ) → b ≡ 0 → a < b → ⊥
    less_none a b none less = omega (arith, none, less)

    no_loss : (x : Part) → times f (names_of t x) < times f (names_of s x) → ⊥
    no_loss (PlaceIs g i) less = by_side (w.frame g) refl
      where
        by_side : (b : Bool) → w.frame g ≡ b → ⊥
        by_side true here = no_less _ _ (ap place_names (place_stays g i here)) less
        by_side false here = less_none _ _
            (place_none w s split (numbers_on setting lim events run.0 w split) f of g i here (s.place g i) refl) less
    no_loss (FrameIs g) less = by_side (w.frame g) refl
      where
        by_side : (b : Bool) → w.frame g ≡ b → ⊥
        by_side true here = no_less _ _ (ap frame_names (frame_stays g here)) less
        by_side false here = less_none _ _ (frame_none w s split (numbers_on setting lim events run.0 w split) f of g here) less
    no_loss (NumberIs l) less = by_side (w.number l) refl
      where
        by_side : (b : Bool) → w.number l ≡ b → ⊥
        by_side true here = no_less _ _ (ap number_names (number_stays l here)) less
        by_side false here = less_none _ _ (number_none w s split (numbers_on setting lim events run.0 w split) f of l here) less
    no_loss (CoreIs d) less = elim (cases_eq d c) [
      | inr other ↦ no_less _ _ (ap core_names (core_stays d other)) less
      | inl same ↦ less_none _ _ (core_none w s split (numbers_on setting lim events run.0 w split) f of d
          (subst (λ n. n < s.limits.cores) (sym same) on.is_core) (ap (λ n. w.frame (s.core n).thread) same ∙ thread_out)) less
    ]
    no_loss _ less = omega (arith, less)

  no_cause : (x : Thing) → is_of w x ≡ true → HasCause s t x → ⊥
  no_cause (PlaceOf f i) of (k, held, removed) = holds_quiescing k k (sym held ∙ sym (place_stays f i of) ∙ removed)
  no_cause (NumberOf l) of (live, dead) = false≢true (sym dead ∙ ap is_live (number_stays l of) ∙ live)
  no_cause (FrameOf f) of loses = no_loss f of loses.part loses.fewer

  not_begun : (x : Thing) → is_of w x ≡ true → begins s c call r x ≡ false
  not_begun x of = not_true (begins s c call r x)
      (λ begun. no_cause x of (graces_have_cause setting lim events c call r run x begun))

  ended_out : (made : Call) (x : Thing) → is_of w x ≡ true → ends_by made x ≡ true → ChangesFrom (λ change. ⊥) s c (rule_of s c made)
  ended_out (Retype n f FrameKind.Untyped) x of is = λ range e calm. within f
      (range_frame w s c (side w s c) on n f range (not_retyped s f FrameKind.Untyped) e calm ∙ out) (thing_frame w x f is of)
  ended_out (make_call Make.Table n f a b) x of is = λ range e table g slot v calm. within f
      (range_frame w s c (side w s c) on n f range (not_blank s f ∷ []) e calm ∙ out) (place_frame w x f is of)
  ended_out (make_call Make.Leaf n f a b) x of is = λ range e table g slot v calm. within f
      (range_frame w s c (side w s c) on n f range (not_blank s f ∷ []) e calm ∙ out) (place_frame w x f is of)
  ended_out (make_call Make.Pages n f a b) x of is = λ range e table g slot v calm. within f
      (range_frame w s c (side w s c) on n f range (not_blank s f ∷ []) e calm ∙ out) (place_frame w x f is of)
  ended_out (make_call Make.Pleaf n f a b) x of is = λ range e table g slot v calm. within f
      (range_frame w s c (side w s c) on n f range (not_blank s f ∷ []) e calm ∙ out) (place_frame w x f is of)
  ended_out _ x of is = absurd (false≢true is)

  not_ended : (x : Thing) → is_of w x ≡ true → ends call r x ≡ false
  not_ended x of = by_reply r run.1.permitted
    where
      by_reply : (q : Reply) → MayReply s c call q → ends call q x ≡ false
      by_reply (Reply.Ok v) may = not_true (ends_by call x) (λ is. none_found (λ change. change.value ≡ v) (change_of s c call)
          (outcome_from (λ change. ⊥) s c (rule_of s c call) (ended_out call x of is)) may.1.1)
      by_reply _ may = refl

  pub grace_stays : (x : Thing) → is_of w x ≡ true → flushes call r ≡ false → t.grace x ≡ s.grace x
  grace_stays x of none = grace_is s c call r run.1.permitted x
      ∙ (λ i. cond (not_begun x of i) (new_grace s x)
      (cond (not_ended x of i) no_grace (cond (none i) (flushed_by c (s.grace x)) (s.grace x))))
