-- A call that gives ticks back finds its head as it was read, with a list that does not cover the grant; or finds another head.
use Rattle.count_invariant.specs.step_ways.proofs as low
use low.{◌≡◌, inl, inr, ℕ, ◌<◌, ◌==◌, Bool, true, false, Some, refl, sym, ◌∙◌, ap, subst, eq-eqb, eqb-true, eqb-false, left_if, Setting}
use low.{IsSetting, word_of_head, Word, EntryAt, Move, LoadOf, CompareOf, left_of, State, HasRacedHead, changes_in_frame, Trace}
use low.{state_after, last_left, Act, Undecided, ActiveCall, landed, Core, KnowsUndecided, Invariant, TcapOf, credited, took_refilled}
use low.{refuse, Refill as refill_act, IsOfCall, GoodTook, ticks_at, refuses_raced, Refusal}
use Rattle.count_invariant.specs.act_states.specs.{refill_after, Refill, Again, took_refill}
use Rattle.count_invariant.specs.stage_tcap.specs.{Refilling.again, declared.refill.RefillAt.TheVariants.Compare}
use low.Refusals.{refuses_unlike}
use Rattle.pair_invariant.proofs.RefillCalls as calls
use Rattle.pair_invariant.proofs.RefillLists as lists

-- The second load of the head.
module _ (setup : Setting) (setting : IsSetting setup) (cores : ℕ → Core) (t : Trace) (stands : Invariant setup cores t) (c : ℕ)
    (here : c < setup.cores)
    (a : ActiveCall) (active : (cores c).active ≡ Some a) (r : Refill)
    (stage_is : a.stage ≡ Undecided (Act (refill_act (record r { at = Again }))))
    (has : KnowsUndecided setup t c (cores c).own.table a (Act (refill_act (record r { at = Again })))) where
  abbrev now_r : Refill
  now_r = record r { at = Again }

  abbrev s : State
  s = state_after setup t

  abbrev at : Word
  at = EntryAt r.tcap 0

  abbrev was : ℕ
  was = last_left setup t at

  abbrev old : ℕ
  old = word_of_head r.head

  abbrev tcap : TcapOf (s.frame r.tcap)
  tcap = calls.tcap setup setting cores t stands c here a active now_r stage_is has

  -- it is as it was read, and so is the list
  unlike_good : (was == old) ≡ true → GoodTook setup cores t c (LoadOf at) (landed a (refuse Refusal.Unlike))
  unlike_good same =
      refuses_unlike setup setting cores t stands c here a active
      (calls.opens setup setting cores t stands c here a active now_r stage_is has)
      (calls.held_is setup setting cores t stands c here a active now_r stage_is has)
      (calls.room setup setting cores t stands c here a active now_r stage_is has) (LoadOf at)
      (calls.loading setup setting cores t stands c here a active now_r stage_is has 0) has.acts
      (calls.unlike_may setup setting cores t stands c here a active now_r stage_is has other)
      (λ nobody. calls.unlike_first setup setting cores t stands c here a active now_r stage_is has other)
    where
      equal : was ≡ old
      equal = eqb-true was old same

      listed : r.list ≡ Some tcap.fields.qualities
      listed =
          let read = has.knows.knows.at.read in
          lists.as_read setup setting cores t stands r.tcap tcap.fields tcap.is r.head read.head.fits read.head.bare equal
          r.list 8 read.seen
          ∙ lists.whole setup setting cores t stands r.tcap tcap.fields tcap.is r.head read.head.fits read.head.bare equal

      other : calls.covered setup setting cores t stands c here a active now_r stage_is has ≡ false
      other = sym (calls.covered_is setup setting cores t stands c here a active now_r stage_is has r.list listed)
          ∙ has.knows.knows.at.is

  -- another one is found
  lost_good : (was == old) ≡ false → GoodTook setup cores t c (LoadOf at) (landed a (refuse Refusal.Raced))
  lost_good other =
      refuses_raced setup setting cores t stands c here a active
      (calls.opens setup setting cores t stands c here a active now_r stage_is has)
      (calls.held_is setup setting cores t stands c here a active now_r stage_is has)
      (calls.room setup setting cores t stands c here a active now_r stage_is has) (LoadOf at)
      (calls.loading setup setting cores t stands c here a active now_r stage_is has 0) (ap ticks_at stage_is)
      (record {
        at = inr (subst HasRacedHead (sym tcap.is) tt, refl);
        reads = eq-eqb was was refl;
        own = old;
        has_read = has.knows.knows.at.read.head.own;
        changed = eqb-false was old other;
      })

  pub again_good : GoodTook setup cores t c (LoadOf at) (landed a (took_refill now_r was))
  again_good = by (was == old) refl
    where
      by : (same : Bool) → (was == old) ≡ same
          → GoodTook setup cores t c (LoadOf at) (landed a (took_refilled (refill_after now_r was) (again same)))
      by true is = unlike_good is
      by false is = lost_good is

-- The compare of the head that is lost to another core.
module _ (setup : Setting) (setting : IsSetting setup) (cores : ℕ → Core) (t : Trace) (stands : Invariant setup cores t) (c : ℕ)
    (here : c < setup.cores)
    (a : ActiveCall) (active : (cores c).active ≡ Some a) (r : Refill)
    (stage_is : a.stage ≡ Undecided (Act (refill_act (record r { at = Compare }))))
    (has : KnowsUndecided setup t c (cores c).own.table a (Act (refill_act (record r { at = Compare })))) where
  abbrev given_r : Refill
  given_r = record r { at = Compare }

  abbrev head_at : Word
  head_at = EntryAt r.tcap 0

  abbrev found : ℕ
  found = last_left setup t head_at

  abbrev read : ℕ
  read = word_of_head r.head

  abbrev new : ℕ
  new = word_of_head (credited r.head r.ticks)

  abbrev pub compare : Move
  compare = CompareOf head_at read new

  abbrev tcap_given : TcapOf ((state_after setup t).frame r.tcap)
  tcap_given = calls.tcap setup setting cores t stands c here a active given_r stage_is has

  pub of_call : IsOfCall setup t c a.call compare
  of_call = record {
    moves = ap (changes_in_frame a.call) tcap_given.is ∙ calls.budgets setup setting cores t stands c here a active given_r stage_is has;
    footprint = inl (calls.footprint setup setting cores t stands c here a active given_r stage_is has);
  }

  pub compare_lost : (found == read) ≡ false → GoodTook setup cores t c compare (landed a (refuse Refusal.Raced))
  compare_lost other =
      refuses_raced setup setting cores t stands c here a active
      (calls.opens setup setting cores t stands c here a active given_r stage_is has)
      (calls.held_is setup setting cores t stands c here a active given_r stage_is has)
      (calls.room setup setting cores t stands c here a active given_r stage_is has) compare
      (record { of_call = of_call; kept = kept; apart = λ d. refl }) (ap ticks_at stage_is)
      (record {
        at = inr (subst HasRacedHead (sym tcap_given.is) tt, refl);
        reads = eq-eqb (left_of compare found) found kept;
        own = read;
        has_read = has.knows.knows.at.read.head.own;
        changed = eqb-false found read other;
      })
    where
      kept : left_of compare found ≡ found
      kept = ap (λ b. left_if b found new) other
