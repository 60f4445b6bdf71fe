-- What an act holds beside its counts: no count, and of another word what does not depend on the counts; and while these are acquired, what
-- a refusal has then to store.
use Rattle.step_ways.specs.core_invariant.proofs as low
use low.{CompAt, KillingAt, Mark, MakingAt, ◌≡◌, ◌≢◌, ℕ, true, false, refl, not, false≢true, CountAt, AtDraw, AtStore, UntypingAt, swept_of}
use low.{thaw_of, holds_untyping, thaws_own, holds_act, holds_tail, holds_making, holds_killing, holds_comp, Draw as kill_draw}
use low.{AtCompare as close_compare, Remove as remove_act, Make as make_act, Kill as kill_act, MakeComp as comp_act, Untype as untype_act}
use low.{Share as share_act, Refill as refill_act, Switch as switch_act, ThreadHolds.switching_undo_holds, SameAt, Keepings.IsApart}
use Rattle.step_ways.specs.act_states.specs.{undo, comp_undo, undo_at, is_killing, untyping_undo, phases_of}
use low.{Keepings.all_beside, Keepings.act_beside, Keepings.SparesWord, Keepings.SparesWordAt, Keepings.frozen_away}
use Rattle.{step_ways.specs.core_invariant.specs.Holding.Holding, step_ways.specs.core_invariant.specs.Knows.is_counting}
use Rattle.{step_ways.specs.act_states.specs.declared.work.Act.Act as ActOf}

-- While its counts are acquired an act holds what it will hold at its next step, which is what a refusal has then to store.
pub undo_holds : (act : ActOf) (h : Holding) → is_counting act ≡ true → holds_tail (undo act) h ≡ holds_act act h
undo_holds (remove_act (close_compare node index word by) cap) h is = refl
undo_holds (remove_act (AtDraw node index) cap) h is = absurd (false≢true is)
undo_holds (remove_act (AtStore node index x) cap) h is = absurd (false≢true is)
undo_holds (make_act m) h is = by m.at
  where
    by : (at : MakingAt) → holds_tail (undo_at m.frame at) h ≡ holds_making m.frame at h
    by (Mark word) = refl
    by _ = refl
undo_holds (untype_act m) h is = by m.at
  where
    by : (at : UntypingAt) → holds_tail (untyping_undo m.frame at) h ≡ holds_untyping m.frame at h
    by UntypingAt.Load = refl
    by at = refl
undo_holds (kill_act m) h is = by m.at is
  where
    by : (at : KillingAt) → not (is_killing at) ≡ true → h ≡ holds_killing at h
    by (kill_draw life word) is = absurd (false≢true is)
    by at is = refl
undo_holds (share_act p) h is = absurd (false≢true is)
undo_holds (refill_act r) h is = absurd (false≢true is)
undo_holds (switch_act m) h is = switching_undo_holds m m.at h is
undo_holds (comp_act m) h is = by m.at
  where
    by : (at : CompAt) → holds_tail (comp_undo m at) h ≡ holds_comp m at h
    by CompAt.Load = refl
    by at = refl
undo_holds act h is = refl

-- The frame is not one of which an act has frozen the counters.
abbrev pub SparesAt : UntypingAt → ℕ → Type 0
SparesAt UntypingAt.Load f = Unit {0}
SparesAt (UntypingAt.Mark word v) f = Unit {0}
SparesAt (UntypingAt.Sweep word w) f = f ≢ w.frame
SparesAt (UntypingAt.Draw word w) f = f ≢ w.frame

abbrev pub SparesSwept : ActOf → ℕ → Type 0
SparesSwept (untype_act m) f = SparesAt m.at f
SparesSwept act f = Unit {0}

-- An act holds no count but those that it has frozen.
pub act_count : (act : ActOf) (h : Holding) (f d : ℕ) → SparesSwept act f → SameAt (holds_act act h) h (CountAt f d)
act_count act h f d spares = all_beside (phases_of act).keeps h (CountAt f d) (act_beside act (CountAt f d) apart (spared act spares))
  where
    apart : IsApart (CountAt f d)
    apart = record { entries = λ g i. refl; frames = λ g. refl; numbers = λ l. refl }

    spared : (act : ActOf) → SparesSwept act f → SparesWord act (CountAt f d)
    spared (untype_act m) other = by m.at other
      where
        by : (at : UntypingAt) → SparesAt at f → SparesWordAt at (CountAt f d)
        by (UntypingAt.Sweep word x) other = frozen_away (thaw_of (swept_of x) false) f x.frame d (thaws_own (swept_of x) false) other
        by (UntypingAt.Draw word x) other = frozen_away (thaw_of x false) f x.frame d (thaws_own x false) other
        by _ other = tt
    spared act other = tt
