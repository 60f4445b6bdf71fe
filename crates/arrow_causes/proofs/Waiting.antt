-- `quiescing d` has a line from the entry of the call in which core d is.
use Rattle.flight_laws.specs.flight.specs.step_ways.proofs as low
use low.{◌≡◌, ◌≢◌, ℕ, suc, Bool, true, false, List, ◌∷◌, length, Option, Some, None, refl, sym, ◌∙◌, ap, subst, Setting, IsSetting, Call}
use low.{Reply, Word, CoreAt, word_of, MayDecide, Step, Trace, Out, phase, after_enter, by_alike, by_room, judged, Pair, PairAt, PairWork}
use low.{Own, Work, Act, move_in, told_by, told_in, Took, GoesOn, Decides, Returns, Changes, took, Stage, Undecided, ActiveCall, decided_in}
use low.{KnowsPairAt, KnowsAct, KnowsWork, KnowsAt, CallIs, plan_for}
use Rattle.flight_laws.specs.flight.specs.{turned, stepping_core, cores_after, IsMade}
use Rattle.wait_steps.specs.Waits.{RepliesAt, TookAt, IsAgain, AgainIn, AgainOf, AgainAt}
use Rattle.arrow_causes.proofs.{Busy.inside_then, Entries.newest_entry, Holders.IsHolders, Lines.line_of}
use Rattle.{wait_steps.specs.call_stages.specs.act_states.specs.declared.work.Act.Act as ActType}
use Rattle.{flight_laws.specs.flight.proofs.Made.made_stands, arrow_laws.specs.page_layers.specs.Layers.is_blamed}
use Rattle.{arrow_laws.specs.page_drawing.specs.page_touches.specs.Touches.is_clock, wait_steps.proofs.Steps.took_at_core}
use Rattle.{arrow_laws.specs.Arrows.entered_at, arrow_causes.specs.Causes.WaitsAreLines}

-- What is decided at a second load of a head says of no wait.
alike_again : (b : Bool) → IsAgain (by_alike b)
alike_again true = tt
alike_again false = tt

judged_again : (what : PairWork) (p : Pair) → IsAgain (judged what p)
judged_again (PairWork.Transfer ticks) p = alike_again _
judged_again (PairWork.Delegate ticks) p = by p.list_b where
  by : (o : Option (List (ℕ × ℕ))) → IsAgain (by_room o)
  by None = tt
  by (Some xs) = tt
judged_again PairWork.Test p = tt

pair_again : (setup : Setting) (t : Trace) (c : ℕ) (p : Pair) (at : PairAt) → KnowsPairAt setup t c p at → IsAgain at
pair_again setup t c p PairAt.LoadA knows = tt
pair_again setup t c p PairAt.MarkA knows = tt
pair_again setup t c p (PairAt.ListA n) knows = tt
pair_again setup t c p PairAt.LoadB knows = tt
pair_again setup t c p (PairAt.ListB n) knows = tt
pair_again setup t c p PairAt.CompareB knows = tt
pair_again setup t c p (PairAt.AgainB r) knows = subst IsAgain knows.judges (judged_again p.what p)
pair_again setup t c p (PairAt.StoreList n) knows = tt
pair_again setup t c p PairAt.StoreB knows = tt
pair_again setup t c p (PairAt.StoreA moved v) knows = tt

module _ (setup : Setting) (t : Trace) (c table : ℕ) (a : ActiveCall) where
  act_again : (upto : ℕ) (act : ActType) → KnowsAct setup t c a.call (plan_for a.call) a.found upto act → AgainIn act
  act_again upto (ActType.Share p) knows = pair_again setup t c p p.at knows.at
  act_again upto _ knows = tt

  work_again : (work : Work) → KnowsWork setup t c table a work → AgainOf work
  work_again (Act act) knows = act_again setup.cores act knows.knows
  work_again _ knows = tt

  stage_again : (stage : Stage) → KnowsAt setup t c table a stage → AgainAt stage
  stage_again (Undecided work) knows = work_again work knows.knows
  stage_again _ knows = tt

active_again : (setup : Setting) (t : Trace) (c table : ℕ) (o : Option ActiveCall) → CallIs setup t c table o → (a : ActiveCall) → o
    ≡ Some a
    → AgainAt a.stage
active_again setup t c table None call a is = cc
active_again setup t c table (Some b) call a is = subst (λ (x : ActiveCall). AgainAt x.stage) (same b a is)
    (stage_again setup t c table b b.stage call.knows)
  where
    same : (x y : ActiveCall) → Some x ≡ Some y → x ≡ y
    same x y h = cc

-- What a step has told is what it took.
told_at : (w : Word) (k : Took) (d : ℕ) → TookAt w k → decided_in (told_by k) ≡ Some (Reply.Quiescing d) → w ≡ CoreAt d
told_at w k d at told = by k at told where
  same : (q r : Reply) → Some q ≡ Some r → q ≡ r
  same q r h = cc

  by : (k : Took) → TookAt w k → decided_in (told_by k) ≡ Some (Reply.Quiescing d) → w ≡ CoreAt d
  by (GoesOn a) at told = cc
  by (Decides q a) at told = subst (RepliesAt w) (same q (Reply.Quiescing d) told) at
  by (Returns q x) at told = cc
  by (Changes q change a) at told = subst (RepliesAt w) (same q (Reply.Quiescing d) told) at

core_at : (own : Own) (o : Option ActiveCall) (found d : ℕ) → ((a : ActiveCall) → o ≡ Some a → AgainAt a.stage)
    → decided_in (told_in own o found) ≡ Some (Reply.Quiescing d) → word_of (move_in own o) ≡ CoreAt d
core_at own None found d again told = cc
core_at own (Some a) found d again told =
    told_at _ (took own a found) d (took_at_core own a a.stage found (again a refl)) told

-- A step of the machine that decides `quiescing d` is on the word of core d.
on_core : (setup : Setting) → IsSetting setup → (t : Trace) (e : Step) → IsMade setup (e ∷ t) → (d : ℕ)
    → e.decides ≡ Some (Reply.Quiescing d) → word_of e.move ≡ CoreAt d
on_core setup setting t e made d is =
    ap (λ (x : Step). word_of x.move) made.1.made
    ∙ core_at (stepping_core setup t e).own (stepping_core setup t e).active _ d (by e.enters)
    (sym (ap (λ (x : Step). x.decides) made.1.made) ∙ is)
  where
    stands : CallIs setup t e.core (cores_after setup t e.core).own.table (cores_after setup t e.core).active
    stands = ((made_stands setup setting t made.0).each e.core made.1.is_core).active

    by : (o : Option Call) → (a : ActiveCall) → (turned o (cores_after setup t e.core)).active ≡ Some a → AgainAt a.stage
    by None a active = active_again setup t e.core (cores_after setup t e.core).own.table (cores_after setup t e.core).active stands a
        active
    by (Some call) a active = subst (λ (x : ActiveCall). AgainAt x.stage) (same _ a active) tt
      where
        same : (x y : ActiveCall) → Some x ≡ Some y → x ≡ y
        same x y h = cc

pub waits_are_lines : WaitsAreLines
waits_are_lines page setup t e d setting history taken is =
    let may = subst (λ o. MayDecide setup t e o (after_enter e.enters (phase t e.core))) is history.legal.1.decides in
    let waits = may.justified.may_wait in
    let word : word_of e.move ≡ CoreAt d = on_core setup setting t e history.made d is in
    let inside : phase t d ≢ Out = inside_then setup t e d waits.other waits.is_inside in
    let entry = newest_entry setup setting t history.made.0 d inside in
    let holds : (h : IsHolders t (word_of e.move) d) × (suc (length h.before) ≡ entered_at t d) =
    subst (λ (v : Word). (h : IsHolders t v d) × (suc (length h.before) ≡ entered_at t d)) (sym word) (entry.holds, entry.entry) in
    let line = line_of page setup setting t e history.legal taken (ap is_blamed is) (ap is_clock word) d waits.other inside holds.0 in
    record { line = line.0; entry = line.1 ∙ holds.1 }
