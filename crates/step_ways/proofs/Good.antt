-- What a step must show, and why the cores then stand for the trace with it. Calls are not looked at here.
use Rattle.kept_facts.specs.core_invariant.proofs as low
use low.{FrameWord, NewObject, CompAt, CompMaking, Store, MakingAt, Scan, Acquire, Work, AtCore, AtFlush, Plan, cases_word, frame_value}
use low.{is_node, same_same, word_of, left_of, frame_of_word, Capability, suc, zero, ◌≡◌, ◌≢◌, inl, inr, ℕ, ◌+◌, ◌<◌, ◌≤◌, ◌∷◌, length}
use low.{Option, Some, None, arith, sym, ◌∙◌, ap, subst, ◌⊎◌, ◌&&◌, ◌==◌, not, Bool, true, false, List, IsTrue, if◌then◌else◌, refl}
use low.{eqb-true, false≢true, Setting, IsSetting, Call, Word, EntryAt, FrameAt, LiveAt, put, first_of_stack, Frame, Untyped, User, Kernel}
use low.{Blank, Table, Leaf, Pages, Pleaf, Comp, Thread, Tcap, put_same, put_other, Step, Trace, Out, Open, phase, state_after, last_left}
use low.{marked_by, IsInFootprint, MayFollow, is_in, clock, phase-other, flush_stored-other, last_left-here, last_left-there, KeepsTime}
use low.{Stage, Living, Undecided, Decided, Leave, ActiveCall, Own, Quiesce, StoreDead, StoreFlush, StoreLive, StoreRunning, StoreIdle}
use low.{Core, HasThread, holds_switching, claimed_by, is_claimed, settled, MarkIs, keeps, holds_counts, settled_by, WordIs, SparesTcap}
use low.{phase_at, CallIs, KnowsAt, WorksIn, CoreIs, blank_word, KnowsMakingAt, KnowsAct, KnowsWork, KnowsCompAt, held_by, times_of}
use low.{counted_in, SumIs, is_done, holds_making, holds_act, holds_work, holds_at, holds_in, holds, holds_comp, IsExclusive, marker_inside}
use low.{latest_stamp, swept_of, Sweep, SweepAt, Swept, release_of, UntypingAt, holds_release, holds_untyping, AreFrozen, AreKept, IsQuiet}
use low.{KnowsSweep, KnowsUntypingAt, SaysTyped, Act as act_work, Make as make_act, Untype as untype_act, MakeComp as comp_act}
use low.{Switch as switch_act, true≢false, MayEnter, calls_of-other, inside_is, IsIdleIn, Empty as sweep_empty, plan_for}
use low.{ThreadHolds.claimed_idle}
use Rattle.kept_facts.proofs.{was_stays, Holding, Invariant, counts_on, HoldsSwept, release_swept, SparesExclusive, KeepsUsers}
use Rattle.kept_facts.specs.core_invariant.specs.{KnowsSwept, KnowsIdle, KnowsRunning, is_start, KnowsSweepAt}
use Rattle.kept_facts.specs.act_states.specs.{comp_is_marked, is_marked, declared.work.Tail.TheVariants.Share}
use Rattle.kept_facts.specs.kernel_history.specs.{IsWithin, IsDisciplined, StepsInFootprint, Alone.AnswersAlone, Graces.LeavesBy}
use Rattle.kept_facts.specs.kernel_history.proofs.{own_read-other, exit_of-other, flush_of-other}
use Rattle.kept_facts.specs.trace_laws.proofs.{Carries.Carries, Carries.carries_other, Stays.own_stays_other, Stays.stays_in_other}
use Rattle.kept_facts.specs.trace_laws.proofs.{GraceSteps.grace_on, GraceSteps.times_on, Waiting.leave_on, Waiting.passed_on}
use Rattle.kept_facts.specs.act_states.specs.{declared.makings.MakingAt.TheVariants.Fill as making_fill, declared.work.Act.Act as ActOf}
use Rattle.kept_facts.specs.kernel_history.proofs.{Steps.steps_in_call-other, Markings.marked_on}
use Rattle.kept_facts.proofs.{Claimed.guarded_thread, Claimed.claimed_rests, Carries.alive_on, Carries.undecided_on, Carries.store_on}
use Rattle.kept_facts.proofs.{Carries.dead_on, Carries.live_on, KeptReads.stores_in, KeptReads.stores_of, KeptReads.looks_at}
use Rattle.kept_facts.proofs.{KeptReads.looks_in, KeptReads.looked_in, KeptReads.looked_of, KeptReads.claimed_in, KeptReads.claimed_of}
use Rattle.kept_facts.proofs.{KeptReads.KeepsThreads, Swept.LeavesFrame, Swept.kernel_is, Swept.swept_rests, SharesOn.SharesStay}
use Rattle.kept_facts.proofs.{SharesOn.shares_other, Exclusive.exclusive_other}
use Rattle.step_ways.proofs.Users.{SparesCounted, users_stay}
use Rattle.{std.proofs.lemmas.Bool.cases_eq, kept_facts.specs.trace_laws.proofs.Waiting.flushed_on}
use Rattle.{kept_facts.specs.found_stays.proofs.Stays.OwnStay}

-- A step changes a word of a blank frame only where its core has marked the frame, and a word of a temporal capability as `SparesTcap`
-- says.
abbrev pub Spared : Setting → Trace → Step → ℕ → ℕ → Frame → Type 0
Spared setup t e f i (Kernel Blank) = (marked_by setup t (FrameAt f) ≡ Some e.core) ⊎ (left_of e.move e.found ≡ e.found)
Spared setup t e f i (Kernel (Tcap q)) = SparesTcap setup t e f i
Spared setup t e f i Untyped = Unit {0}
Spared setup t e f i User = Unit {0}
Spared setup t e f i (Kernel Table) = Unit {0}
Spared setup t e f i (Kernel Leaf) = Unit {0}
Spared setup t e f i (Kernel Pages) = Unit {0}
Spared setup t e f i (Kernel Pleaf) = Unit {0}
Spared setup t e f i (Kernel (Comp k)) = Unit {0}
Spared setup t e f i (Kernel (Thread u)) = Unit {0}

abbrev pub SparesBlanks : Setting → Trace → Step → Type 0
SparesBlanks setup t e = (f i : ℕ) → word_of e.move ≡ EntryAt f i → Spared setup t e f i ((state_after setup t).frame f)

-- A step on a word that is no entry, or is left as found, spares them.
pub spares_other : (setup : Setting) (t : Trace) (e : Step) → ((f i : ℕ) → word_of e.move ≢ EntryAt f i) → SparesBlanks setup t e
spares_other setup t e other f i at = absurd (other f i at)

kept_tcap : (setup : Setting) (t : Trace) (e : Step) (f i : ℕ) → left_of e.move e.found ≡ e.found → SparesTcap setup t e f i
kept_tcap setup t e f zero kept = inl kept
kept_tcap setup t e f (suc j) kept = inl kept

kept_spared : (setup : Setting) (t : Trace) (e : Step) (f i : ℕ) (x : Frame) → left_of e.move e.found ≡ e.found → Spared setup t e f i x
kept_spared setup t e f i (Kernel Blank) kept = inr kept
kept_spared setup t e f i (Kernel (Tcap q)) kept = kept_tcap setup t e f i kept
kept_spared setup t e f i _ kept = tt

pub spares_kept : (setup : Setting) (t : Trace) (e : Step) → left_of e.move e.found ≡ e.found → SparesBlanks setup t e
spares_kept setup t e kept f i at = kept_spared setup t e f i ((state_after setup t).frame f) kept

-- Nor does one on an entry of a node.
node_spared : (setup : Setting) (t : Trace) (e : Step) (f i : ℕ) (x : Frame) → IsTrue (is_node x) → Spared setup t e f i x
node_spared setup t e f i (Kernel Table) node = tt
node_spared setup t e f i (Kernel Leaf) node = tt
node_spared setup t e f i (Kernel Pages) node = tt
node_spared setup t e f i (Kernel Pleaf) node = tt
node_spared setup t e f i _ node = absurd (false≢true node)

pub spares_node : (setup : Setting) (t : Trace) (e : Step) (node index : ℕ) → word_of e.move ≡ EntryAt node index
    → IsTrue (is_node ((state_after setup t).frame node)) → SparesBlanks setup t e
spares_node setup t e node index at in_node f i here =
    subst (λ (g : ℕ). Spared setup t e g i ((state_after setup t).frame g)) (sym (same _ _ _ _ (sym here ∙ at)))
    (node_spared setup t e node i ((state_after setup t).frame node) in_node)
  where
    same : (f i node index : ℕ) → EntryAt f i ≡ EntryAt node index → f ≡ node
    same f i node index h = cc

-- Nor does one on a word of a blank frame that its core has marked.
pub spares_blank : (setup : Setting) (t : Trace) (e : Step) (f i : ℕ) → word_of e.move ≡ EntryAt f i
    → (state_after setup t).frame f ≡ Kernel Blank → marked_by setup t (FrameAt f) ≡ Some e.core → SparesBlanks setup t e
spares_blank setup t e f i at blank mark g j here =
    subst (λ (h : ℕ). Spared setup t e h j ((state_after setup t).frame h)) (same _ _ _ _ (sym at ∙ here))
    (subst (Spared setup t e f j) (sym blank) (inl mark))
  where
    same : (f i g j : ℕ) → EntryAt f i ≡ EntryAt g j → f ≡ g
    same f i g j h = cc

-- A frame of which the words are stored is marked by the core, and its word as it was found is that of a blank frame.
record IsFilled (h : Holding) (f : ℕ) : Type 0 where
  marks : h.marks (FrameAt f) ≡ true
  says : frame_of_word (h.stands (FrameAt f)) ≡ Some blank_word

filled_here : (f g word : ℕ) (h : Holding) → (true && f == g) ≡ true → frame_of_word word ≡ Some blank_word
    → IsFilled (keeps (FrameAt g) word h) f
filled_here f g word h same says = subst (λ (n : ℕ). IsFilled (keeps (FrameAt g) word h) n) (sym (eqb-true f g same)) (record {
  marks = ap (λ b. if b then true else h.marks (FrameAt g)) (same_same (FrameAt g));
  says = ap (λ b. frame_of_word (if b then word else h.stands (FrameAt g))) (same_same (FrameAt g)) ∙ says;
})

filled_making : (setup : Setting) (t : Trace) (c f g : ℕ) (object : NewObject) (at : MakingAt) (h : Holding)
    → KnowsMakingAt setup t c g object at
    → (is_marked at && f == g) ≡ true → IsFilled (holds_making g at h) f
filled_making setup t c f g object (Store word n) h knows is = filled_here f g word h is knows.says
filled_making setup t c f g object (making_fill word) h knows is = filled_here f g word h is knows.says
filled_making setup t c f g object _ h knows is = absurd (false≢true is)

filled_two : (f g l word live : ℕ) (h : Holding) → (true && f == g) ≡ true → frame_of_word word ≡ Some blank_word
    → IsFilled (keeps (LiveAt l) live (keeps (FrameAt g) word h)) f
filled_two f g l word live h same says =
    let filled = filled_here f g word h same says in record { marks = filled.marks; says = filled.says }

filled_comp : (setup : Setting) (t : Trace) (c f : ℕ) (m : CompMaking) (at : CompAt) (h : Holding) → KnowsCompAt setup t c m at
    → (comp_is_marked at && f == m.frame) ≡ true → IsFilled (holds_comp m at h) f
filled_comp setup t c f m (CompAt.LoadLive word) h knows is = filled_here f m.frame word h is knows
filled_comp setup t c f m (CompAt.Scan word last q) h knows is = filled_here f m.frame word h is knows.0
filled_comp setup t c f m (CompAt.Close word last) h knows is = filled_here f m.frame word h is knows.0
filled_comp setup t c f m (CompAt.Store word last n) h knows is = filled_two f m.frame m.number word last.word h is knows.0
filled_comp setup t c f m (CompAt.Fill word last) h knows is = filled_two f m.frame m.number word last.word h is knows.0
filled_comp setup t c f m _ h knows is = absurd (false≢true is)

filled_act : (setup : Setting) (t : Trace) (c f : ℕ) (call : Call) (plan : Plan) (ks : List Capability) (act : ActOf) (h : Holding)
    → KnowsAct setup t c call plan ks setup.cores act → stores_in act f ≡ true → IsFilled (holds_act act h) f
filled_act setup t c f call plan ks (make_act m) h knows is = filled_making setup t c f m.frame m.object m.at h knows.at is
filled_act setup t c f call plan ks (comp_act m) h knows is = filled_comp setup t c f m m.at h knows.at is
filled_act setup t c f call plan ks act h knows is = absurd (false≢true is)

-- A scan is made before the frame is marked.
scans_nothing : (act : ActOf) (f : ℕ) → is_start act ≡ true → stores_in act f ≡ false
scans_nothing (make_act m) f starts = by (is_marked m.at) starts
  where
    by : (b : Bool) → not b ≡ true → (b && f == m.frame) ≡ false
    by true h = absurd (false≢true h)
    by false h = refl
scans_nothing (comp_act m) f starts = by (comp_is_marked m.at) starts
  where
    by : (b : Bool) → not b ≡ true → (b && f == m.frame) ≡ false
    by true h = absurd (false≢true h)
    by false h = refl
scans_nothing act f starts = refl

-- And before an object is looked at.
scans_unlooked : (act : ActOf) (f : ℕ) → is_start act ≡ true → looked_in act f ≡ false
scans_unlooked (untype_act m) f starts = absurd (false≢true starts)
scans_unlooked act f starts = refl

-- And before a thread is claimed.
scans_unclaimed : (act : ActOf) (f : ℕ) → is_start act ≡ true → claimed_in act f ≡ false
scans_unclaimed (switch_act m) f starts = absurd (false≢true starts)
scans_unclaimed act f starts = refl

filled_work : (setup : Setting) (t : Trace) (c table f : ℕ) (a : ActiveCall) (work : Work) (h : Holding) → KnowsWork setup t c table a work
    → stores_of work f ≡ true → IsFilled (holds_work work h) f
filled_work setup t c table f a (Scan (AtCore at core upto page) act) h knows is =
    absurd (false≢true (sym (scans_nothing act f knows.starts) ∙ is))
filled_work setup t c table f a (Scan (AtFlush at upto) act) h knows is =
    absurd (false≢true (sym (scans_nothing act f knows.starts) ∙ is))
filled_work setup t c table f a (Acquire pin change act) h knows is = filled_act setup t c f a.call (plan_for a.call) a.found act h
    knows.knows is
filled_work setup t c table f a (act_work act) h knows is = filled_act setup t c f a.call (plan_for a.call) a.found act h knows.knows is
filled_work setup t c table f a _ h knows is = absurd (false≢true is)

pub blank_is : (x : Frame) → Some (frame_value x) ≡ Some blank_word → x ≡ Kernel Blank
blank_is x h = kernel_is x (ap (λ v. v.kind) (same _ _ h)) (ap (λ v. v.object) (same _ _ h))
  where
    same : (v u : FrameWord) → Some v ≡ Some u → v ≡ u
    same v u h = cc

-- A good step: it may follow, keeps its call's bound, answers in order where its call is alone, keeps the discipline and its call's
-- footprint, spares what others have marked or counted, and leaves marks, words, what is kept without a mark, time and its own core as they
-- are to be.
pub record IsGood (setup : Setting) (cores : ℕ → Core) (t : Trace) (e : Step) (after : Core) : Type 0 where
  pub follows : MayFollow setup t e
  pub within : IsWithin setup.cores t e
  pub alone : AnswersAlone setup t e
  pub disciplined : IsDisciplined setup t e
  pub footprint : StepsInFootprint setup t e
  pub blanks : SparesBlanks setup t e
  pub counted : SparesCounted setup t e
  pub marks : (w : Word) (d : ℕ) → MarkIs setup (held_by (put cores e.core after)) (e ∷ t) w d
  pub words : (w : Word)
      → WordIs (state_after setup (e ∷ t)) (times_of setup (e ∷ t)) w (settled setup (held_by (put cores e.core after)) (e ∷ t) w)
  pub exclusive : (f i v : ℕ) → (holds after).bare f i ≡ Some v → IsExclusive setup (e ∷ t) e.core f i
  pub spares : SparesExclusive cores e
  pub sums : (f : ℕ) → SumIs setup (held_by (put cores e.core after)) (e ∷ t) f
  pub draws : clock setup (e ∷ t) ≤ 1 + counted_in setup (state_after setup (e ∷ t))
  pub time : KeepsTime setup t e
  pub leaves : LeavesBy setup t e e.returns
  pub own : CoreIs setup after (e ∷ t) e.core

-- where another core works stays
works_on : (setup : Setting) (t : Trace) (e : Step) (core : Own) (c : ℕ) → OwnStay (state_after setup t) (state_after setup (e ∷ t)) c
    → WorksIn core (state_after setup t) c → WorksIn core (state_after setup (e ∷ t)) c
works_on setup t e core c on is = record {
  thread = is.thread ∙ ap (λ k. k.thread) (sym on.core);
  depth = is.depth ∙ ap (λ k. length k.stack) (sym on.thread);
  comp = is.comp ∙ ap (λ k. first_of_stack k.stack) (sym on.thread);
  table = is.table ∙ ap (λ k. k.table) (sym on.comp);
  pages = is.pages ∙ ap (λ k. k.pages) (sym on.comp);
  tcap = is.tcap ∙ ap (λ k. k.tcap) (sym on.core);
  cached = is.cached ∙ ap (λ k. k.cached) (sym on.core);
  owed = is.owed ∙ ap (λ k. k.owed) (sym on.core);
  spent = is.spent ∙ ap (λ k. k.spent) (sym on.core);
  back = is.back ∙ ap (λ k. k.back) (sym on.core);
  grant = is.grant ∙ ap (λ k. k.grant) (sym on.core);
  made = is.made ∙ ap (λ k. k.counted) (sym on.core);
}

module _ (setup : Setting) (setting : IsSetting setup) (cores : ℕ → Core) (t : Trace) (stands : Invariant setup cores t) (e : Step) where
  open_carries : MayFollow setup t e → KeepsTime setup t e → (c : ℕ) (call : Call) → c ≢ e.core → phase t c ≡ Open call
      → Carries setup t e c
  open_carries follows time c call other is = carries_other setup setting t stands.legal e follows time stands.graces c other call is

  -- the words of a frame that another core has marked, and fills, stay
  filled_stays : MayFollow setup t e → SparesBlanks setup t e → (c : ℕ) (h : Holding) → c ≢ e.core
      → ((w : Word) → h.marks w ≡ true → (marked_by setup t w ≡ Some c) × (settled setup (held_by cores) t w ≡ h.stands w))
      → (f : ℕ) → IsFilled h f → (i : ℕ) → last_left setup (e ∷ t) (EntryAt f i) ≡ last_left setup t (EntryAt f i)
  filled_stays follows blanks c h other held f filled i = elim (cases_word (EntryAt f i) (word_of e.move)) [
    | inl here ↦ elim (subst (Spared setup t e f i) blank (blanks f i (sym here))) [
      | inl mine ↦ absurd (other (same_core c e.core (sym (held (FrameAt f) filled.marks).0 ∙ mine)))
      | inr kept ↦ last_left-here setup (EntryAt f i) e t here ∙ kept ∙ follows.found ∙ ap (last_left setup t) (sym here)
    ]
    | inr there ↦ last_left-there setup (EntryAt f i) e t there
  ]
    where
      same_core : (x y : ℕ) → Some x ≡ Some y → x ≡ y
      same_core x y h = cc

      blank : (state_after setup t).frame f ≡ Kernel Blank
      blank = blank_is ((state_after setup t).frame f)
          (sym (subst (λ (x : ℕ). frame_of_word x ≡ Some (frame_value ((state_after setup t).frame f))) (held (FrameAt f) filled.marks).1
          (stands.words (FrameAt f))) ∙ filled.says)

  -- a frame whose word another core has marked stays what it is
  abbrev ValueStays : ℕ → Type 0
  ValueStays f = frame_value ((state_after setup (e ∷ t)).frame f) ≡ frame_value ((state_after setup t).frame f)

  -- a frame of which another core has looked at the object rests
  act_looked : MayFollow setup t e → (c : ℕ) → c ≢ e.core → (call : Call) (plan : Plan) (ks : List Capability) (upto : ℕ) (act : ActOf)
      (h : Holding) → ((w : Word) → (holds_act act h).marks w ≡ true → settled setup (held_by cores) t w ≡ (holds_act act h).stands w)
      → ((f : ℕ) → (holds_act act h).marks (FrameAt f) ≡ true → ValueStays f)
      → KnowsAct setup t c call plan ks upto act → (f : ℕ) → looked_in act f ≡ true
      → LeavesFrame (state_after setup t) (state_after setup (e ∷ t)) f
  act_looked follows c other call plan ks upto (untype_act m) h held typed has f is = by_at m.at refl
    where
      here : f ≡ m.frame
      here = eqb-true f m.frame (last (looks_in m.at) (f == m.frame) is)
        where
          last : (x y : Bool) → (x && y) ≡ true → y ≡ true
          last true y p = p
          last false y p = absurd (false≢true p)

      Goal : Type 0
      Goal = LeavesFrame (state_after setup t) (state_after setup (e ∷ t)) f

      unlooked : looks_in m.at ≡ false → Goal
      unlooked not = absurd (false≢true (sym (ap (λ b. b && f == m.frame) not) ∙ is))

      rests : (at : UntypingAt) → m.at ≡ at → (word : ℕ) (w : Swept) (v : FrameWord)
          → holds_untyping m.frame at h ≡ holds_release (release_of m.frame word w false) h → w.frame ≡ m.frame → SaysTyped word v
          → AreKept w.words → AreFrozen setup.cores w.words
          → IsQuiet setup t c m.frame (latest_stamp w.words) setup.cores setup.cores → Goal
      rests at at_is word w v holds_is same met kept frozen quiet =
          let whole : holds_act (untype_act m) h ≡ holds_release (release_of m.frame word w false) h =
          ap (λ x. holds_untyping m.frame x h) at_is ∙ holds_is in
          let swept : HoldsSwept (holds_act (untype_act m) h) m.frame word w.words =
          subst (λ g. HoldsSwept g m.frame word w.words) (sym whole) (release_swept m.frame word w h same) in
          subst (λ (n : ℕ). LeavesFrame (state_after setup t) (state_after setup (e ∷ t)) n) (sym here)
          (swept_rests setup cores t stands c m.frame word w.words (holds_act (untype_act m) h) held swept kept frozen setting e follows
          other v met (typed m.frame swept.marks) quiet)

      by_sweep : (word : ℕ) (w : Sweep) → m.at ≡ UntypingAt.Sweep word w → KnowsSweep setup t c m.frame word w → (at : SweepAt) → w.at ≡ at
          → KnowsSweepAt setup t c m.frame w at → Goal
      by_sweep word w at_is knows (sweep_empty entry) is at =
          rests (UntypingAt.Sweep word w) at_is word (swept_of w) w.word refl knows.frame knows.met knows.kept at.frozen at.quiet
      by_sweep word w at_is knows _ is at = unlooked (ap looks_in at_is ∙ ap looks_at is)

      by_at : (at : UntypingAt) → m.at ≡ at → Goal
      by_at (UntypingAt.Sweep word w) at_is =
          let knows : KnowsSweep setup t c m.frame word w = subst (KnowsUntypingAt setup t c m.frame) at_is has.at in
          by_sweep word w at_is knows w.at refl knows.at
      by_at (UntypingAt.Draw word w) at_is =
          let knows : KnowsSwept setup t c m.frame word w = subst (KnowsUntypingAt setup t c m.frame) at_is has.at in
          rests (UntypingAt.Draw word w) at_is word w knows.shown refl knows.frame knows.met knows.kept knows.swept.frozen knows.swept.quiet
      by_at _ at_is = unlooked (ap looks_in at_is)
  act_looked follows c other call plan ks upto act h held typed has f is = absurd (false≢true is)

  looked_stays : MayFollow setup t e → (c table : ℕ) → c ≢ e.core → (a : ActiveCall) (work : Work) (h : Holding)
      → ((w : Word) → (holds_work work h).marks w ≡ true → settled setup (held_by cores) t w ≡ (holds_work work h).stands w)
      → ((f : ℕ) → (holds_work work h).marks (FrameAt f) ≡ true → ValueStays f)
      → KnowsWork setup t c table a work → (f : ℕ) → looked_of work f ≡ true
      → LeavesFrame (state_after setup t) (state_after setup (e ∷ t)) f
  looked_stays follows c table other a (Scan (AtCore at core upto page) act) h held typed has f is =
      absurd (false≢true (sym (scans_unlooked act f has.starts) ∙ is))
  looked_stays follows c table other a (Scan (AtFlush at upto) act) h held typed has f is =
      absurd (false≢true (sym (scans_unlooked act f has.starts) ∙ is))
  looked_stays follows c table other a (Acquire pin change act) h held typed has f is =
      act_looked follows c other a.call (plan_for a.call) a.found setup.cores act h held typed has.knows f is
  looked_stays follows c table other a (act_work act) h held typed has f is =
      act_looked follows c other a.call (plan_for a.call) a.found setup.cores act h held typed has.knows f is
  looked_stays follows c table other a _ h held typed has f is = absurd (false≢true is)

  -- a thread that another core has claimed rests
  abbrev ClaimRests : ℕ → Holding → Type 0
  ClaimRests c h = (f : ℕ) → IsIdleIn h f → HasThread (state_after setup t) c f
      → (state_after setup (e ∷ t)).frame f ≡ (state_after setup t).frame f

  act_claimed : (c : ℕ) (act : ActOf) (h : Holding) → ClaimRests c (holds_act act h) → (f : ℕ) → claimed_in act f ≡ true
      → HasThread (state_after setup t) c f → (state_after setup (e ∷ t)).frame f ≡ (state_after setup t).frame f
  act_claimed c (switch_act m) h rests f is has =
      rests f (subst (IsIdleIn (holds_switching m m.at h))
      (sym (eqb-true f (claimed_by m.at) (last (is_claimed m.at) (f == claimed_by m.at) is)))
      (claimed_idle m m.at h (first (is_claimed m.at) (f == claimed_by m.at) is))) has
    where
      first : (x y : Bool) → (x && y) ≡ true → x ≡ true
      first true y q = refl
      first false y q = absurd (false≢true q)

      last : (x y : Bool) → (x && y) ≡ true → y ≡ true
      last true y q = q
      last false y q = absurd (false≢true q)
  act_claimed c act h rests f is has = absurd (false≢true is)

  threads_stay : MayFollow setup t e → (c table : ℕ) → c ≢ e.core → is_in (phase t c) ≡ true → (a : ActiveCall) (work : Work) (h : Holding)
      → ClaimRests c (holds_work work h) → KnowsWork setup t c table a work → KeepsThreads setup t e c (λ f. claimed_of work f)
  threads_stay follows c table other inside a work h rests has = record {
    guards = guarded_thread setup setting cores t stands e follows c other inside;
    rests = by work rests has;
  }
    where
      by : (work : Work) → ClaimRests c (holds_work work h) → KnowsWork setup t c table a work → (f : ℕ) → claimed_of work f ≡ true
          → HasThread (state_after setup t) c f → (state_after setup (e ∷ t)).frame f ≡ (state_after setup t).frame f
      by (Scan (AtCore at core upto page) act) rests knows f is has =
          absurd (false≢true (sym (scans_unclaimed act f knows.starts) ∙ is))
      by (Scan (AtFlush at upto) act) rests knows f is has = absurd (false≢true (sym (scans_unclaimed act f knows.starts) ∙ is))
      by (Acquire pin change act) rests knows f is has = act_claimed c act h rests f is has
      by (act_work act) rests knows f is has = act_claimed c act h rests f is has
      by _ rests knows f is has = absurd (false≢true is)

  -- what it has still to store of threads
  idle_other : MayFollow setup t e → (c : ℕ) → c ≢ e.core → is_in (phase t c) ≡ true → (call : Call) (f : ℕ) → KnowsIdle setup t c call f
      → KnowsIdle setup (e ∷ t) c call f
  idle_other follows c other inside call f has = record {
    threads = has.threads;
    footprint = was_stays (IsInFootprint c call (EntryAt f 0)) setup t e c (λ own. absurd (other own)) has.footprint;
    thread = guarded_thread setup setting cores t stands e follows c other inside f has.thread;
  }

  running_other : MayFollow setup t e → (c : ℕ) → c ≢ e.core → is_in (phase t c) ≡ true → (call : Call) (f core old : ℕ)
      → KnowsRunning setup t c call f core old → KnowsRunning setup (e ∷ t) c call f core old
  running_other follows c other inside call f core old has = record {
    core = has.core;
    own = has.own ∙ ap (λ k. k.thread) (sym (stays_in_other setup setting t stands.legal e follows c other inside).own.core);
    footprint = was_stays (IsInFootprint c call (EntryAt f 0)) setup t e c (λ own. absurd (other own)) has.footprint;
    apart = has.apart;
    rest = idle_other follows c other inside call old has.rest;
  }

  -- what another core knows of two temporal capabilities
  shares_stay : MayFollow setup t e → SparesBlanks setup t e → (c : ℕ) → c < setup.cores → c ≢ e.core → SharesStay setup t e c
  shares_stay follows blanks c here other =
      shares_other setup setting t stands.legal e follows c here other
      (λ f i q is at. subst (Spared setup t e f i) is (blanks f i at))

  knows_other : MayFollow setup t e → KeepsTime setup t e → SparesBlanks setup t e → (c : ℕ) → KeepsUsers setup t e c
      → SharesStay setup t e c → (table : ℕ) (a : ActiveCall) → c ≢ e.core
      → (stage : Stage)
      → ((w : Word) → (holds_at stage a.counts).marks w ≡ true
      → (marked_by setup t w ≡ Some c) × (settled setup (held_by cores) t w ≡ (holds_at stage a.counts).stands w))
      → ((f : ℕ) → (holds_at stage a.counts).marks (FrameAt f) ≡ true → ValueStays f)
      → (is_in (phase t c) ≡ true → ClaimRests c (holds_at stage a.counts))
      → phase t c ≡ phase_at a.call stage → KnowsAt setup t c table a stage → KnowsAt setup (e ∷ t) c table a stage
  knows_other follows time blanks c users shares table a other (Living alive) held typed claims at has =
      alive_on setup setting t e stands.legal c a.call at (open_carries follows time c a.call other at) a.call alive has
  knows_other follows time blanks c users shares table a other (Undecided work) held typed claims at has =
      undecided_on setup setting t e stands.legal c a.call at (open_carries follows time c a.call other at) table a work
      (λ act is. record {
        shares = λ p share of ks has. shares.undecided (ap is_in at) of ks p has;
        refills = λ r refill of ks has. shares.refilling (ap is_in at) of ks r has;
      })
      (λ w. own_read-other c e t other w)
      (λ f i is. filled_stays follows blanks c (holds_at (Undecided work) a.counts) other held f
      (filled_work setup t c table f a work (holds_counts (is_done (Undecided work)) a.counts) has.knows is) i) users
      (looked_stays follows c table other a work (holds_counts (is_done (Undecided work)) a.counts) (λ w is. (held w is).1) typed has.knows)
      (threads_stay follows c table other (ap is_in at) a work
      (holds_counts (is_done (Undecided work)) a.counts) (claims (ap is_in at)) has.knows)
      has
  knows_other follows time blanks c users shares table a other (Decided r drawn (StoreDead life stamp)) held typed claims at has =
      dead_on setup t e c a.call (λ own. absurd (other own)) life has
  knows_other follows time blanks c users shares table a other (Decided r drawn (StoreFlush by x)) held typed claims at has = record {
    stores = has.stores;
    core = has.core;
    some = has.some;
    small = has.small;
    last = flush_of-other c e t other ∙ has.last;
  }
  knows_other follows time blanks c users shares table a other (Decided r drawn (Share p)) held typed claims at has =
      shares.decided (ap is_in at) a.call p has
  knows_other follows time blanks c users shares table a other
      (Decided r drawn (StoreRunning f core depth old old_depth)) held typed claims at has =
      running_other follows c other (ap is_in at) a.call f core old has
  knows_other follows time blanks c users shares table a other (Decided r drawn (StoreIdle f depth)) held typed claims at has =
      idle_other follows c other (ap is_in at) a.call f has
  knows_other follows time blanks c users shares table a other (Decided r drawn (StoreLive l live f word)) held typed claims at has =
      live_on setup t e c a.call (λ own. absurd (other own)) l live f word has
  knows_other follows time blanks c users shares table a other (Decided r drawn (Quiesce close)) held typed claims at has =
      store_on setup t e c a.call (λ own. absurd (other own)) (λ f.
      (stays_in_other setup setting t stands.legal e follows c other (ap is_in at)).relies f) close has
  knows_other follows time blanks c users shares table a other (Leave r x) held typed claims at has =
      leave_on setup t e follows time stands.graces c x other (inside_is setup t c ∙ ap is_in at) has
  knows_other follows time blanks c users shares table a other _ held typed claims at has = has

  call_other : MayFollow setup t e → KeepsTime setup t e → SparesBlanks setup t e → (c : ℕ) → KeepsUsers setup t e c
      → SharesStay setup t e c → (table : ℕ)
      → c ≢ e.core
      → (o : Option ActiveCall)
      → ((w : Word) → (holds_in o).marks w ≡ true
      → (marked_by setup t w ≡ Some c) × (settled setup (held_by cores) t w ≡ (holds_in o).stands w))
      → ((f : ℕ) → (holds_in o).marks (FrameAt f) ≡ true → ValueStays f) → (is_in (phase t c) ≡ true → ClaimRests c (holds_in o))
      → CallIs setup t c table o
      → CallIs setup (e ∷ t) c table o
  call_other follows time blanks c users shares table other None held typed claims is = phase-other c e t other ∙ is
  call_other follows time blanks c users shares table other (Some a) held typed claims is = record {
    phase = phase-other c e t other ∙ is.phase;
    steps = steps_in_call-other c e t other ∙ is.steps;
    knows = knows_other follows time blanks c users shares table a other a.stage held typed claims is.phase is.knows;
    counts = counts_on setup t e c a.call (λ own. absurd (other own)) a.counts is.counts;
    apart = is.apart;
  }

  -- what a core holds it has marked, and stands for what it holds of it
  held_words : (c : ℕ) (w : Word) → (holds (cores c)).marks w ≡ true
      → (marked_by setup t w ≡ Some c) × (settled setup (held_by cores) t w ≡ (holds (cores c)).stands w)
  held_words c w is =
      let mark = (stands.marks w c).kept is in
      (mark, ap (λ o. settled_by o (held_by cores) w (last_left setup t w)) mark)

  core_other : MayFollow setup t e → KeepsTime setup t e → SparesBlanks setup t e → (c : ℕ) → KeepsUsers setup t e c
      → c < setup.cores → c ≢ e.core → ((f : ℕ) → (holds (cores c)).marks (FrameAt f) ≡ true → ValueStays f)
      → (is_in (phase t c) ≡ true → ClaimRests c (holds (cores c)))
      → CoreIs setup (cores c) t c → CoreIs setup (cores c) (e ∷ t) c
  core_other follows time blanks c users here other typed claims is =
      let core : Core = cores c in record {
        fits = is.fits;
        number = is.number;
        shape = is.shape;
        limit = is.limit;
        epochs = is.epochs;
        works = works_on setup t e core.own c (own_stays_other setup setting t stands.legal e follows c here other) is.works;
        exit = is.exit ∙ sym (exit_of-other c e t other);
        flushed = λ done. flush_stored-other c e t other ∙ is.flushed done ∙ sym (flush_of-other c e t other);
        active = call_other follows time blanks c users (shares_stay follows blanks c here other)
            core.own.table other core.active (held_words c) typed claims is.active;
      }

  -- what a frame is stays, by a good step of another core than the one that has marked its word
  value_stays : (after : Core) → IsGood setup cores t e after → (c : ℕ) → c ≢ e.core → (f : ℕ)
      → (holds (cores c)).marks (FrameAt f) ≡ true → ValueStays f
  value_stays after good c other f marks =
      let w : Word = FrameAt f in
      let held = held_by (put cores e.core after) in
      let kept : held c ≡ holds (cores c) = ap holds (put_other cores e.core after c other) in
      let mark : marked_by setup (e ∷ t) w ≡ Some c = (good.marks w c).kept (ap (λ h. h.marks w) kept ∙ marks) in
      let now : settled setup held (e ∷ t) w ≡ (holds (cores c)).stands w =
      ap (λ o. settled_by o held w (last_left setup (e ∷ t) w)) mark ∙ ap (λ h. h.stands w) kept in
      let stays : settled setup held (e ∷ t) w ≡ settled setup (held_by cores) t w = now ∙ sym (held_words c w marks).1 in
      same_value _ _ (sym (subst (λ (n : ℕ). frame_of_word n ≡ Some (frame_value ((state_after setup (e ∷ t)).frame f))) stays
      (good.words w)) ∙ stands.words w)
    where
      same_value : (x y : FrameWord) → Some x ≡ Some y → x ≡ y
      same_value x y h = cc

  -- no word carries the mark of a core that is between calls
  bare : (call : Call) → e.enters ≡ Some call → phase t e.core ≡ Out → (w : Word) → marked_by setup t w ≢ Some e.core
  bare call is out w h = true≢false (sym (marker_inside setup cores t stands w e.core h) ∙ inside_is setup t e.core ∙ ap is_in out)

  -- a good step leaves cores that stand for the trace with it
  pub stands_on : (after : Core) → IsGood setup cores t e after → Invariant setup (put cores e.core after) (e ∷ t)
  stands_on after good = record {
    legal = (stands.legal, good.follows);
    bounds = (stands.bounds, good.within);
    alone = (stands.alone, good.alone);
    discipline = (stands.discipline, good.disciplined);
    footprints = (stands.footprints, good.footprint);
    marks = good.marks;
    marked = marked_on setup t e good.disciplined.marks (λ call is w. bare call is
        (subst (λ o. MayEnter o (phase t e.core)) is good.follows.enters).0 w) stands.marked;
    words = good.words;
    exclusive = λ d f i v is. elim (cases_eq d e.core) [
      | inl own ↦ subst (λ (b : ℕ). IsExclusive setup (e ∷ t) b f i) (sym own)
          (good.exclusive f i v (sym (ap (λ k. (holds k).bare f i) (put_same cores e.core after d own)) ∙ is))
      | inr other ↦ exclusive_other setup setting cores t stands e good.follows good.disciplined.keeps good.spares d f i v other
          (sym (ap (λ k. (holds k).bare f i) (put_other cores e.core after d other)) ∙ is)
    ];
    sums = good.sums;
    draws = good.draws;
    some_time = (let a = stands.some_time in let b = good.time.rises in omega arith);
    times = λ c. times_on setup t e good.time good.leaves c (stands.times c);
    graces = grace_on setup t e good.follows good.time good.leaves stands.times stands.graces;
    unbegun = λ x d. (
      passed_on setup t e good.follows good.time stands.graces x 0 d stands.some_time (stands.unbegun x d).0,
      flushed_on setup t e good.follows good.time stands.graces x 0 d stands.some_time (stands.unbegun x d).1,
    );
    each = λ c here. elim (cases_eq c e.core) [
      | inl own ↦ subst (λ k. CoreIs setup k (e ∷ t) c) (sym (put_same cores e.core after c own))
          (subst (λ (d : ℕ). CoreIs setup after (e ∷ t) d) (sym own) good.own)
      | inr other ↦ subst (λ k. CoreIs setup k (e ∷ t) c) (sym (put_other cores e.core after c other))
          (core_other good.follows good.time good.blanks c
          (users_stay setup setting t stands.legal e good.follows good.disciplined.keeps good.counted c here other) here other
          (value_stays after good c other)
          (λ inside f idle has. claimed_rests setup setting cores t stands e
          good.follows c other inside after good.marks good.words f has idle)
          (stands.each c here))
    ];
    away = λ c past.
        let core : e.core < setup.cores = good.follows.is_core in
        let apart : c ≢ e.core = omega arith in
        record {
          out = phase-other c e t apart ∙ (stands.away c past).out;
          none = calls_of-other c e t apart ∙ (stands.away c past).none;
          idle = ap (λ k. k.active) (put_other cores e.core after c apart) ∙ (stands.away c past).idle;
        };
  }
