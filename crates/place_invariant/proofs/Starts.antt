-- Where an act starts, after its look-ups or its scan: it acquires its first count or makes its first step, or its frame is out of range.
use Rattle.count_invariant.specs as low
use low.step_ways.proofs.{acts, IsTrue, ◌≡◌, ◌≤◌, ℕ, pos, negsuc, ◌<◌, ◌++◌, map, length, not, true, false, List, [], ◌∷◌, Some, None, refl}
use low.step_ways.proofs.{sym, ◌∙◌, ap, arith, false≢true, Setting, IsSetting, Call, Move, word_of, RuleMay, Refused, rule_of, change_of}
use low.step_ways.proofs.{are_calls_spent, IsAlone, Step, Trace, Open, phase, state_after, last_left, refused_first, Carries, AtCompare}
use low.step_ways.proofs.{AtDraw, AtStore, Acquired, MakingAt, Mark, CompAt, KillingAt, Goes, refuse, dues, next_work, starts, Stage}
use low.step_ways.proofs.{Undecided, ActiveCall, landed, Core, Holding, holds_counts, AreDuesApart, due_of, KnowsAct, NamesAre, goes_on}
use low.step_ways.proofs.{phase_at, holds_act, holds_in, Invariant, names_on, Load as making_load, Draw as kill_draw, Fill as fill_act}
use low.step_ways.proofs.{Remove as remove_act, Kill as kill_act, Untype as untype_act, Map as map_act, MakeComp as comp_act}
use low.step_ways.proofs.{Invoke as invoke_act, Return as return_act, Share as share_act, Refill as refill_act, Switch as switch_act}
use low.step_ways.proofs.{OnlyLooks, step_to, next_at, core_is, call_is, loads_on, decides_on, GoodTook, not_spent, plan_for, Reply}
use low.step_ways.proofs.{Refusal}
use low.act_states.specs.{comp_is_marked, is_marked, is_killing}
use low.core_invariant.specs.{Make as make_act, is_start, is_counting}
use Rattle.count_invariant.proofs.{knows_next, next_holds, one_apart}
use low.act_fits.proofs.DuesFit.{invoking_one, returning_one, cap_one}
use low.act_states.specs.{phases_of, Phases.Phases, Acts.starts_if, Bool}
use low.core_invariant.specs.Frozen.{holds_all}
use low.{act_states.specs.declared.work.Act.Act as ActOf}

-- Before its first step an act has marked nothing, its counts may be acquired, and it changes one at most.
record StartsPlain (p : Phases) : Type 0 where
  none : p.keeps ≡ []
  counting : p.counting ≡ true
  one : length p.dues ≤ 1

-- one that changes a count, if it changes one
one_due : (p : Phases) → p.keeps ≡ [] → p.counting ≡ true → length p.dues ≤ 1 → StartsPlain p
one_due p none counting one = record { none = none; counting = counting; one = one }

starts_plain : (act : ActOf) → is_start act ≡ true → StartsPlain (phases_of act)
starts_plain (fill_act fill) is = one_due _ refl refl (cap_one fill.cap.kind fill.cap.frame fill.cap.arg (pos 1))
starts_plain (map_act fill) is = one_due _ refl refl (cap_one fill.cap.kind fill.cap.frame fill.cap.arg (pos 1))
starts_plain (remove_act (AtCompare node index word by) cap) is = one_due _ refl refl (cap_one cap.kind cap.frame cap.arg (negsuc 0))
starts_plain (remove_act (AtDraw node index) cap) is = absurd (false≢true is)
starts_plain (remove_act (AtStore node index x) cap) is = absurd (false≢true is)
starts_plain (make_act m) is = by m.at is
  where
    by : (at : MakingAt) → not (is_marked at) ≡ true → StartsPlain (phases_of (make_act (record m { at = at })))
    by making_load is = one_due _ refl refl (omega arith)
    by (Mark word) is = one_due _ refl refl (omega arith)
    by at is = absurd (false≢true is)
starts_plain (comp_act m) is = by m.at is
  where
    by : (at : CompAt) → not (comp_is_marked at) ≡ true → StartsPlain (phases_of (comp_act (record m { at = at })))
    by CompAt.Load is = one_due _ refl refl (omega arith)
    by (CompAt.Mark word) is = one_due _ refl refl (omega arith)
    by at is = absurd (false≢true is)
starts_plain (kill_act m) is = by m.at is
  where
    by : (at : KillingAt) → not (is_killing at) ≡ true → StartsPlain (phases_of (kill_act (record m { at = at })))
    by (kill_draw life word) is = absurd (false≢true is)
    by at is = one_due _ refl refl (omega arith)
starts_plain (untype_act m) is = absurd (false≢true is)
starts_plain (share_act p) is = absurd (false≢true is)
starts_plain (refill_act r) is = absurd (false≢true is)
starts_plain (switch_act m) is = absurd (false≢true is)
starts_plain (invoke_act m) is = one_due _ refl refl (invoking_one m.comp m.at)
starts_plain (return_act m) is = one_due _ refl refl (returning_one m.top m.at)
starts_plain act is = one_due _ refl refl (omega arith)

start_holds : (act : ActOf) (h : Holding) → is_start act ≡ true → holds_act act h ≡ h
start_holds act h is = ap (λ ks. holds_all ks h) (starts_plain act is).none

start_counts : (act : ActOf) → is_start act ≡ true → is_counting act ≡ true
start_counts act is = (starts_plain act is).counting

start_apart : (act : ActOf) → is_start act ≡ true → AreDuesApart (dues act)
start_apart act is = one_apart (dues act) (starts_plain act is).one

-- A call whose frame is not in its range is refused so, and nothing before that refuses it.
pub record IsRefusedOutside (setup : Setting) (t : Trace) (c : ℕ) (call : Call) (move : Move) : Type 0 where
  pub may : RuleMay (state_after setup t) c (rule_of (state_after setup t) c call) Reply.OutOfRange
  pub first : IsAlone t (step_to c None move (last_left setup t (word_of move)) (Some Reply.OutOfRange) None)
      → change_of (state_after setup t) c call ≡ Refused Reply.OutOfRange

module _ (setup : Setting) (setting : IsSetting setup) (cores : ℕ → Core) (t : Trace) (stands : Invariant setup cores t) (c : ℕ)
    (here : c < setup.cores)
    (a : ActiveCall) (active : (cores c).active ≡ Some a) (opens : phase_at a.call a.stage ≡ Open a.call)
    (held_is : holds_in (Some a) ≡ holds_counts None a.counts) (no_counts : a.counts ≡ [])
    (room : (cores c).own.made < (cores c).own.limit)
    (names : NamesAre setup t c (cores c).own.table (plan_for a.call) a.found) (move : Move) (looks : OnlyLooks setup t c a.call move)
    (may_act : IsTrue (acts (state_after setup t) c a.call)) where
  abbrev e : Step
  e = step_to c None move (last_left setup t (word_of move)) None None

  is_open : phase t c ≡ Open a.call
  is_open = (call_is setup setting cores t stands c here a active).phase ∙ opens

  abbrev Known : ActOf → Type 0
  Known act = Carries setup t e c → KnowsAct setup (e ∷ t) c a.call (plan_for a.call) a.found setup.cores act

  goes_good : (act : ActOf) → is_start act ≡ true → goes_on act ≡ true → Known act
      → GoodTook setup cores t c move (landed a (Goes (next_work (cores c).own.core 0 act)))
  goes_good act is goes known lands =
      let stage : Stage = Undecided (next_work (cores c).own.core 0 act) in
      loads_on setup setting cores t stands c here a active move a.found stage looks lands
      (next_holds (cores c).own.core 0 act (holds_counts None a.counts) ∙ start_holds act (holds_counts None a.counts) is ∙ sym held_is)
      opens
      (λ carries. record {
        acts = may_act;
        names = names_on setup setting t e stands.legal c a.call is_open carries (cores c).own.table (plan_for a.call) a.found names;
        knows = knows_next setup (e ∷ t) c (cores c).own.table (next_at a a.found stage) (cores c).own.core act (dues act)
            (stands.each c here).number (known carries)
            (ap (λ (xs : List Acquired). map due_of xs ++ dues act) (sym no_counts)) (start_apart act is) 0
            (ap (λ (xs : List Acquired). length xs) (sym no_counts)) (start_counts act is) goes;
      })

  outside_good : IsRefusedOutside setup t c a.call move → GoodTook setup cores t c move (landed a (refuse Refusal.OutOfRange))
  outside_good refused lands =
      let unspent : are_calls_spent (state_after setup t) c ≡ false = not_spent setup (cores c) t c
      (core_is setup setting cores t stands c here a active) room in
      decides_on setup setting cores t stands c here a active move Reply.OutOfRange a.found looks lands (sym held_is) opens refl refl
      (λ x. refl) (λ x. refl) refl (unspent, refused.may) tt
      (λ is_alone. refused_first (state_after setup t) c a.call Reply.OutOfRange may_act unspent (refused.first is_alone))

  pub starts_good : (act : ActOf) → is_start act ≡ true → Known act → (goes_on act ≡ false → IsRefusedOutside setup t c a.call move)
      → GoodTook setup cores t c move (landed a (starts (cores c).own.core act))
  starts_good act is known refused = by (goes_on act) refl
    where
      by : (within : Bool) → goes_on act ≡ within → GoodTook setup cores t c move (landed a (starts_if within (cores c).own.core act))
      by true goes = goes_good act is goes known
      by false out = outside_good (refused out)
