-- What a decision makes of cores: it leaves all others as they are; its own counts a call, and stays on its side of a world that is split.
use Rattle.same_changes.specs.kernel_laws.proofs as low
use low.{◌≡◌, ◌≢◌, inl, inr, ℕ, ◌+◌, Bool, refl, sym, ◌∙◌, ap, arith, List, [], ◌∷◌, Setting, IsSetting, Capability, Kind, Call, Tick}
use low.{Reply, put, Core, State, Change, Judged, Refused, Found, IsFoundAnd, change_of, changed, counted, owed_by, state_by, MayReply}
use low.{calls_counted, Event, Decides, after, is_open, IsRun, IfFound, put_same, Give, Edit, Fill, Cache, Charge, Merge, edited}
use low.{after_edits, IsOpen, opened, open_is, open_limits, AreLater, Calm, found_by, runs_shape}
use Rattle.split_laws.specs.{World, IsSplit, side}
use Rattle.world_laws.specs.authority_laws.proofs.{By, EachBy, decided_from}
use Rattle.world_laws.specs.authority_laws.specs.{CoreIs, Over}
use Rattle.world_laws.specs.kernel_rules.specs.Edits.{Switch, Flush}
use low.Shapes.{ShapedBy, shaped_by}
use Rattle.world_laws.specs.authority_laws.proofs.DecidedParts.{calls_change_their_own}
use Rattle.split_laws.proofs.Working.{WorksOn, works_on, named_frame}

-- The side of a core's thread, after edits.
module _ (call : Call) (w : World) (s : State) (c : ℕ) (b : Bool) (on : WorksOn w s c b) where
  abbrev Stays : State → Type 0
  Stays t = w.frame (t.core c).thread ≡ b

  own_core : (t : State) (k : Core) → k.thread ≡ (t.core c).thread → Stays t → w.frame (put t.core c k c).thread ≡ b
  own_core t k same h = ap (λ (x : Core). w.frame x.thread) (put_same t.core c k c refl) ∙ ap w.frame same ∙ h

  edit_stays : (e : Edit) → By call s c e → Stays (edited c s e)
  edit_stays (Switch h q) by =
      ap (λ (x : Core). w.frame x.thread) (put_same s.core c (record (s.core c) { thread = h; tcap = q }) c refl)
      ∙ ap w.frame (sym by.frame) ∙ named_frame w s c b on by.first Kind.Thread by.thread refl by.names
  edit_stays (Cache t) by = own_core s _ refl on.thread
  edit_stays Flush by = own_core s _ refl on.thread
  edit_stays (Charge n) by = own_core s _ refl on.thread
  edit_stays (Give f m) by = own_core s _ refl on.thread
  edit_stays _ by = on.thread

  later_stays : (t : State) (es : List Edit) → AreLater es → Stays t → Stays (after_edits c t es)
  later_stays t [] are h = h
  later_stays t (Fill at k ∷ es) are h = later_stays (edited c t (Fill at k)) es are h
  later_stays t (Merge f qs ∷ es) are h = later_stays (edited c t (Merge f qs)) es are h
  later_stays t (_ ∷ es) are h = absurd are

  edits_stay : (es : List Edit) → Calm c s es → EachBy call s c es → Stays (after_edits c s es)
  edits_stay [] calm by = on.thread
  edits_stay (e ∷ es) calm by = later_stays (edited c s e) es calm.2 (edit_stays e by.0)

module _ (setting : Setting) (lim : IsSetting setting) (events : List Event) (c : ℕ) (call : Call) (r : Reply)
    (run : IsRun setting (Decides c call r ∷ events)) where
  abbrev s : State
  s = after setting events

  abbrev t : State
  t = after setting (Decides c call r ∷ events)

  open_call : IsOpen s (opened events) c
  open_call = open_is setting lim events c run.0 (ap is_open run.1.is_open)

  pub others_stay : (d : ℕ) → d ≢ c → t.core d ≡ s.core d
  others_stay d other = elim (calls_change_their_own setting lim events c call r run (CoreIs d)) [
    | inl same ↦ same
    | inr (inl own) ↦ absurd (other own)
    | inr (inr one) ↦ absurd (no_core one.cap.kind one.cap one.over)
  ]
    where
      no_core : (j : Kind) (k : Capability) → Over s c j k (CoreIs d) → ⊥
      no_core Kind.Range k over = over
      no_core _ k over = over

  pub thread_stays : (w : World) → IsSplit w s → w.frame (t.core c).thread ≡ w.frame (s.core c).thread
  thread_stays w split =
      let on : WorksOn w s c (side w s c) = works_on w s c (opened events) open_call split in
      decided_from s c (opened events) open_call call (λ u. w.frame (u.core c).thread ≡ side w s c) on.thread
      (λ u k thread left h. own_core call w s c (side w s c) on u k thread h) (λ u g h. h)
      (λ es calm by. edits_stay call w s c (side w s c) on es calm by) r run.1.permitted
      ∙ sym on.thread

  -- a call that is carried out leaves what its core has counted
  shaped : IfFound (change_of s c call) (ShapedBy s c)
  shaped = found_by s c call (ShapedBy s c) (shaped_by s (opened events) c open_call (runs_shape setting lim events run.0) call
      (open_limits setting events c call run.0 run.1.is_open))

  pub counts_one : (t.core c).counted ≡ (s.core c).counted + calls_counted r
  counts_one = by_reply r run.1.permitted
    where
      count : (u : State) → (u.core c).counted ≡ (s.core c).counted → ((counted u c).core c).counted ≡ (s.core c).counted + 1
      count u same = ap (λ (x : Core). x.counted) (put_same u.core c (record (u.core c) { counted = (u.core c).counted + 1 }) c refl)
          ∙ ap (λ n. n + 1) same

      owed : (made : Call) → ((owed_by s c made).core c).counted ≡ (s.core c).counted
      owed (Tick n) = ap (λ (x : Core). x.counted) (put_same s.core c (record (s.core c) { owed = (s.core c).owed + n }) c refl)
      owed _ = refl

      found : (P : Change → Type 0) (x : Judged Change) → IfFound x (ShapedBy s c) → IsFoundAnd x P → ((changed s x).core c).counted
          ≡ (s.core c).counted
      found P (Refused q) by ok = absurd ok
      found P (Found change) by ok = by.own.counted

      by_reply : (q : Reply) → MayReply s c call q → ((state_by s c call q).core c).counted ≡ (s.core c).counted + calls_counted q
      by_reply (Reply.Ok v) may = count (changed s (change_of s c call))
          (found (λ change. change.value ≡ v) (change_of s c call) shaped may.1.1)
      by_reply Reply.CallsSpent may = omega arith
      by_reply Reply.Raced may = count (owed_by s c call) (owed call)
      by_reply (Reply.Busy d) may = count (owed_by s c call) (owed call)
      by_reply _ may = count s refl
