-- The first steps by which a call makes a component: the load of the frame's word, and the compare that marks it.
use Rattle.scan_invariant.specs.step_ways.proofs as low
use low.{◌≡◌, true, false, cond, Option, Some, None, refl, ℕ, ◌<◌, ◌==◌, ◌≢◌, sym, ◌&&◌, ◌∷◌, ap, ◌∙◌, subst, inl, inr, not, lt-ltb}
use low.{Setting, IsSetting, FrameKind, Obj, frame_of_word, word_of_frame, FrameWord, word_of, LoadOf, CompareOf, EntryAt, FrameAt, Target}
use low.{alone, rule_of, is_frame, is_blank, RuleMay, State, Carries, own_read-there, footprint_frames, is_one_of, Trace, Open, phase}
use low.{state_after, Step, last_left, own_read, left_may, own_pages, comp_dues, CompMaking, CompAt, Act, Goes, landed, Core, ActiveCall}
use low.{Undecided, spot_on, keeps, phase_at, KnowsUndecided, KnowsComp, KnowsCompAt, Invariant, is_some, MakeComp as comp_act, call_is}
use low.{GoodTook, plan_for, Reply}
use Rattle.scan_invariant.specs.count_invariant.proofs.{IsCompCall, makes_comp_on, comp_changes}
use Rattle.scan_invariant.specs.act_states.specs.{comp_marks, comp_meets, comp_meets_object, comp_meets_blank}
use Rattle.scan_invariant.specs.stage_tcap.specs.{Untyped as FrameUntyped, User as FrameUser, Kernel as FrameKernel}
use Rattle.scan_invariant.specs.place_invariant.proofs.{vacant_slot, vacant_here, stands_alone}
use Rattle.scan_invariant.specs.act_states.specs.{Makings.marked, declared.comps.CompAt.TheVariants.Load}
use Rattle.scan_invariant.specs.act_states.specs.{declared.comps.CompAt.TheVariants.Mark, declared.comps.CompAt.TheVariants.LoadLive}
use Rattle.scan_invariant.specs.count_invariant.proofs.CompCounts.{comp_footprint}
use Rattle.frame_invariant.proofs.Marking.{MarksBlank, goes_by_object, goes_by_mark, goes_by_word}
use Rattle.scan_invariant.specs.act_states.specs.{declared.work.WorkStep.WorkStep, Comps.comp_keeps}
use Rattle.comp_invariant.proofs.CompCalls as calls
use Rattle.frame_invariant.proofs.Marking as marking

module _ (setup : Setting) (setting : IsSetting setup) (cores : ℕ → Core) (t : Trace) (stands : Invariant setup cores t) (c : ℕ)
    (here : c < setup.cores)
    (a : ActiveCall) (active : (cores c).active ≡ Some a) (m : CompMaking) (stage_is : a.stage ≡ Undecided (Act (comp_act m)))
    (has : KnowsUndecided setup t c (cores c).own.table a (Act (comp_act m))) where
  abbrev s : State
  s = state_after setup t

  abbrev f : ℕ
  f = m.frame

  abbrev was : ℕ
  was = last_left setup t (FrameAt f)

  abbrev knows : KnowsComp setup t c a.call (plan_for a.call) a.found setup.cores m
  knows = has.knows.knows

  abbrev node : ℕ
  node = m.fill.node

  abbrev index : ℕ
  index = m.fill.entry

  opens : phase_at a.call a.stage ≡ Open a.call
  opens = ap (phase_at a.call) stage_is

  is_open : phase t c ≡ Open a.call
  is_open = (call_is setup setting cores t stands c here a active).phase ∙ opens

  room : (cores c).own.made < (cores c).own.limit
  room = calls.room setup setting cores t stands c here a active m stage_is has

  knows_at : (at : CompAt) → m.at ≡ at → KnowsCompAt setup t c m at
  knows_at at is = subst (KnowsCompAt setup t c m) is knows.at

  is : IsCompCall a.call a.found m
  is = calls.is setup setting cores t stands c here a active m stage_is has

  footprint : is_one_of f (footprint_frames s c a.call) ≡ true
  footprint = comp_footprint a.call a.found m is s c

  -- where it goes on, what it knows of its target it still knows after a step on another word
  goes_on_at : (e : Step) → e.core ≡ c → e.enters ≡ None → EntryAt node index ≢ word_of e.move → Carries setup t e c → (at : CompAt)
      → KnowsCompAt setup (e ∷ t) c m at
      → KnowsComp setup (e ∷ t) c a.call (plan_for a.call) a.found setup.cores (record m { at = at })
  goes_on_at e own no_entry there carries at now = record {
    spot = spot_on setup setting t e stands.legal c a.call is_open carries (plan_for a.call) a.found setup.cores node index m.fill.word
        (own_read-there c e t (sym own) (EntryAt node index) there ∙ ap (λ o. cond (is_some o) None (own_read t c (EntryAt node index)))
        no_entry)
        knows.spot;
    makes = makes_comp_on a.call a.found m at knows.makes;
    core = knows.core;
    epochs = knows.epochs;
    cap = knows.cap;
    at = now;
  }

  -- The load of the frame's word, and the compare that marks it.
  abbrev slot_target : Target
  slot_target = calls.target setup setting cores t stands c here a active m stage_is has

  stands_so : is_blank (s.frame f) ≡ false → (is_frame s f && not (is_blank (s.frame f))) ≡ true
  stands_so other = ap (λ b. b && not (is_blank (s.frame f)))
      (lt-ltb f s.limits.frames (calls.below setup setting cores t stands c here a active m stage_is has)) ∙ ap (λ b. not b) other

  not_entry : EntryAt node index ≡ FrameAt f → ⊥
  not_entry h = cc

  blank_marks : MarksBlank setup cores t c a f m.core
      (λ w. comp_act (record m { at = Mark w })) (λ w. comp_act (record m { at = LoadLive w }))
  blank_marks = record {
    own = knows.core;
    room = room;
    changes = comp_changes a.call a.found m is;
    footprint = footprint;
    may = λ other. left_may s c (own_pages s c) (plan_for a.call) (rule_of s c a.call) a.found
        (calls.by_plan setup setting cores t stands c here a active m stage_is has)
        (calls.leads setup setting cores t stands c here a active m stage_is has) Reply.FrameKind
        (subst (λ x. RuleMay s c x Reply.FrameKind) (sym (calls.left setup setting cores t stands c here a active m stage_is has))
        (inr (inr (inl (stands_so other, refl)))));
    first = λ other alone. calls.by_blank setup setting cores t stands c here a active m stage_is has
        (vacant_slot s c slot_target (record { node = node; index = index })
        (calls.reached_is setup setting cores t stands c here a active m stage_is has)
        (vacant_here setup setting cores t stands c here a active opens has.names node index m.fill.word knows.spot
        (calls.fits_in setup setting cores t stands c here a active m stage_is has).fill.entry
        (calls.leaf setup setting cores t stands c here a active m stage_is has)
        (stands_alone setup t c node index m.fill.word knows.spot.own
        (LoadOf (FrameAt f)) Reply.FrameKind alone)).vacant) false other;
    met_keeps = λ w. refl;
    met_dues = λ w. refl;
    met_goes = λ w. refl;
    keeps = λ w. refl;
    counting = λ w. refl;
    goes = λ w. refl;
    apart = λ blank w. calls.counts_apart setup setting cores t stands c here a active m stage_is has blank;
    knows_met = λ e own no_entry at carries w is_blank. goes_on_at e own no_entry (λ h. not_entry (h ∙ at)) carries (Mark w) is_blank;
    knows_marked = λ e own no_entry at carries w says. goes_on_at e own no_entry (λ h. not_entry (h ∙ at)) carries (LoadLive w) says;
  }

  word_leads : (goes : WorkStep) (o : Option FrameWord) → goes ≡ Goes (Act (comp_act (record m { at = Mark was })))
      → goes_by_word goes o ≡ comp_meets m was o
  word_leads goes None is = refl
  word_leads goes (Some v) is = by v.kind v.object v.mark
    where
      object : (o : Obj) → goes_by_object goes o ≡ comp_meets_object m was o
      object Obj.Blank = is
      object o = refl

      by : (k : FrameKind) (o : Obj) (mark : Option ℕ) → goes_by_mark goes k o mark ≡ comp_meets_blank m was k o mark
      by k o (Some d) = refl
      by FrameKernel o None = object o
      by FrameUntyped o None = refl
      by FrameUser o None = refl

  pub load_good : m.at ≡ Load → GoodTook setup cores t c (LoadOf (FrameAt f)) (landed a (comp_meets m was (frame_of_word was)))
  load_good at_is = subst (λ step. GoodTook setup cores t c (LoadOf (FrameAt f)) (landed a step)) (word_leads _ (frame_of_word was) refl)
      (marking.load_good setup setting cores t stands c here a active (comp_act m) stage_is has (ap (comp_keeps m) at_is)
      (ap (comp_dues m) at_is) refl f m.core _ _ blank_marks)

  pub mark_good : (word : ℕ) → m.at ≡ Mark word → GoodTook setup cores t c (CompareOf (FrameAt f) word (word_of_frame (marked m.core)))
      (landed a (comp_marks m word (was == word)))
  mark_good word at_is = marking.mark_good setup setting cores t stands c here a active (comp_act m) stage_is has
      (ap (comp_keeps m) at_is) (ap (comp_dues m) at_is) refl f m.core _ _ blank_marks word (knows_at (Mark word) at_is)
