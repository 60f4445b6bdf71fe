-- What the head of a temporal capability says that a core has marked in a call that is not decided: the mark, and the budget still.
use Rattle.flight.specs.kept_facts.proofs as low
use low.{◌≡◌, ◌<◌, inl, inr, ℕ, suc, true, false, if◌then◌else◌, Option, Some, None, IsTrue, arith, refl, sym, ◌∙◌, ap, subst}
use low.{false≢true, Setting, IsSetting, Call, HeadFits, word_of_head, head_of_word, HeadWord, spelling, EntryAt, same_same, Frame, Kernel}
use low.{Table, Leaf, Pages, Pleaf, Thread, State, fits, is_node, Trace, Open, phase, state_after, last_left, cases_word, same_word-other}
use low.{AtCompare, AtDraw, AtStore, marked, Pair, PairAt, Switching, SwitchAt, Work, Acquire, Act, Stage, Enter}
use low.{Undecided, Decided, Leave, ActiveCall, Core, Holding, keeps, holds_counts, holds_switching, claimed_by, HeadIs, KnowsAct}
use low.{KnowsWork, KnowsAt, CallIs, phase_at, KnowsPairAt, holds_act, holds_share, holds_head, holds_work, holds_at, holds_in, holds}
use low.{Invariant, slot_relies, Remove as remove_act, Share as share_act, Switch as switch_act, is_tcap, plan_for, Kind}
use Rattle.flight.specs.core_invariant.specs.{nothing, HasMarkedA, Claim}
use Rattle.flight.specs.thread_invariant.proofs.{counts_apart, holder_below, own_thread}
use Rattle.flight.specs.{cores_after, IsMade}
use Rattle.flight.specs.act_states.specs.{declared.work.Act.Act as ActOf, phases_of}
use Rattle.{flight.specs.pair_invariant.proofs.ShareSteps.marked_says, history_laws.specs.Time.OpenHeadsSay, flight.proofs.Made.made_stands}
use Rattle.flight.specs.core_invariant.proofs.Keepings.{all_beside, entry_beside}
use Rattle.flight.specs.kernel_history.specs.Trace as history

pub node_no_tcap : (x : Frame) → IsTrue (is_node x) → is_tcap x ≡ false
node_no_tcap (Kernel Table) node = refl
node_no_tcap (Kernel Leaf) node = refl
node_no_tcap (Kernel Pages) node = refl
node_no_tcap (Kernel Pleaf) node = refl
node_no_tcap _ node = absurd (false≢true node)

pub thread_no_tcap : (x : Frame) → IsTrue (fits Kind.Thread x) → is_tcap x ≡ false
thread_no_tcap (Kernel (Thread k)) fit = refl
thread_no_tcap _ fit = absurd (false≢true fit)

pub same_frame : (f i g j : ℕ) → EntryAt f i ≡ EntryAt g j → f ≡ g
same_frame f i g j h = cc

-- The word is a head with the core's mark, and stands for that head without it.
record IsMarkedHead (setup : Setting) (t : Trace) (f d : ℕ) (h : Holding) : Type 0 where
  head : HeadWord
  raw : last_left setup t (EntryAt f 0) ≡ word_of_head (marked d head)
  fits : HeadFits head
  stands : h.stands (EntryAt f 0) ≡ word_of_head head

module _ (setup : Setting) (setting : IsSetting setup) (cores : ℕ → Core) (t : Trace) (stands : Invariant setup cores t) (f d : ℕ)
    (tcap : IsTrue (is_tcap ((state_after setup t).frame f))) (below : d < setup.cores) where
  abbrev s : State
  s = state_after setup t

  abbrev IsFree : Holding → Type 0
  IsFree h = h.marks (EntryAt f 0) ≡ false

  abbrev Tells : Holding → Type 0
  Tells h = h.marks (EntryAt f 0) ≡ true → IsMarkedHead setup t f d h

  none : (h : Holding) → IsFree h → Tells h
  none h free is = absurd (false≢true (sym free ∙ is))

  -- an entry of a frame that has no temporal capability
  beside : (h : Holding) (g j x : ℕ) → IsFree h → is_tcap (s.frame g) ≡ false → IsFree (keeps (EntryAt g j) x h)
  beside h g j x free not = elim (cases_word (EntryAt f 0) (EntryAt g j)) [
    | inl same ↦ absurd (false≢true (sym not ∙ ap (λ (n : ℕ). is_tcap (s.frame n)) (sym (same_frame f 0 g j same)) ∙ tcap))
    | inr other ↦ ap (λ b. if b then true else h.marks (EntryAt f 0)) (same_word-other (EntryAt f 0) (EntryAt g j) other) ∙ free
  ]

  -- the head of the first of two temporal capabilities
  first : (p : Pair) (n : ℕ) (h : Holding) → HasMarkedA setup t p n → p.core ≡ d → IsFree h → Tells (holds_head p false h)
  first p n h has core free is = elim (cases_word (EntryAt f 0) (EntryAt p.a 0)) [
    | inl same ↦ record {
      head = p.head_a;
      raw = ap (last_left setup t) same ∙ has.raw ∙ ap (λ (c : ℕ). word_of_head (marked c p.head_a)) core;
      fits = has.fits;
      stands = ap (λ w. (holds_head p false h).stands w) same
          ∙ ap (λ b. if b then word_of_head p.head_a else h.stands (EntryAt p.a 0)) (same_same (EntryAt p.a 0));
    }
    | inr other ↦ absurd (false≢true (sym (ap (λ b. if b then true else h.marks (EntryAt f 0))
        (same_word-other (EntryAt f 0) (EntryAt p.a 0) other) ∙ free) ∙ is))
  ]

  shares : (p : Pair) (at : PairAt) (h : Holding) → KnowsPairAt setup t d p at → p.core ≡ d → IsFree h → Tells (holds_share p at h)
  shares p PairAt.LoadA h has core free = none h free
  shares p PairAt.MarkA h has core free = none h free
  shares p (PairAt.ListA (suc n)) h has core free = first p n h has.0 core free
  shares p PairAt.LoadB h has core free = first p 8 h has.0 core free
  shares p (PairAt.ListB (suc n)) h has core free = first p 8 h has.0 core free
  shares p PairAt.CompareB h has core free = first p 8 h has.a core free
  shares p (PairAt.AgainB r) h has core free = first p 8 h has.a core free
  shares p _ h has core free = absurd has

  switching : (m : Switching) (at : SwitchAt) (h : Holding) → is_tcap (s.frame m.old) ≡ false → is_tcap (s.frame (claimed_by at)) ≡ false
      → IsFree h → IsFree (holds_switching m at h)
  switching m (SwitchAt.Claim (Claim.AtStack g depth)) h own other free = beside h g 0 0 free other
  switching m (SwitchAt.LoadTable to) h own other free = beside h to.thread 0 0 free other
  switching m (SwitchAt.LoadPages to table) h own other free = beside h to.thread 0 0 free other
  switching m (SwitchAt.Leave to table pages) h own other free = beside h to.thread 0 0 free other
  switching m (SwitchAt.Draw to table pages) h own other free =
      beside (keeps (EntryAt m.old 0) 0 h) to.thread 0 0 (beside h m.old 0 0 free own) other
  switching m _ h own other free = free

  own_no_tcap : (g : ℕ) → g ≡ (s.core d).thread → is_tcap (s.frame g) ≡ false
  own_no_tcap g own = ap (λ (n : ℕ). is_tcap (s.frame n)) own ∙ ap is_tcap (own_thread setup setting t stands.legal d below)

  module _ (a : ActiveCall) where
    by_act : (act : ActOf) (h : Holding) → phase t d ≡ Open a.call → KnowsAct setup t d a.call (plan_for a.call) a.found setup.cores act
        → IsFree h → Tells (holds_act act h)
    by_act (remove_act (AtCompare n index word by) cap) h opens has free = none h free
    by_act (remove_act (AtDraw n index) cap) h opens has free = none (holds_act (remove_act (AtDraw n index) cap) h)
        (beside h n index 0 free (node_no_tcap (s.frame n)
        (slot_relies setup setting t stands.legal d a.call opens has.target (record { node = n; index = index }) has.way).node))
    by_act (remove_act (AtStore n index x) cap) h opens has free = none h free
    by_act (share_act p) h opens has free = shares p p.at h has.at has.core free
    by_act (switch_act m) h opens has free = none (holds_switching m m.at h) (switching m m.at h (own_no_tcap m.old has.leaves.thread)
        (thread_no_tcap (s.frame (claimed_by m.at)) has.thread.thread) free)
    by_act act h opens has free =
        none (holds_act act h) ((all_beside (phases_of act).keeps h (EntryAt f 0) (entry_beside act f 0 tt)).0 ∙ free)

    by_work : (table : ℕ) (work : Work) → phase t d ≡ Open a.call → KnowsWork setup t d table a work
        → Tells (holds_work work (holds_counts None a.counts))
    by_work table (Acquire pin change act) opens has =
        by_act act (holds_counts None a.counts) opens has.knows (counts_apart None a.counts f 0)
    by_work table (Act act) opens has = by_act act (holds_counts None a.counts) opens has.knows (counts_apart None a.counts f 0)
    by_work table _ opens has = none (holds_counts None a.counts) (counts_apart None a.counts f 0)

    by_stage : (call : Call) (table : ℕ) (stage : Stage) → phase t d ≡ Open call → phase t d ≡ phase_at a.call stage
        → KnowsAt setup t d table a stage → Tells (holds_at stage a.counts)
    by_stage call table Enter undecided at knows = absurd knows
    by_stage call table (Undecided work) undecided at knows = by_work table work at knows.knows
    by_stage call table (Decided r drawn tail) undecided at knows = absurd (unlike (sym undecided ∙ at))
      where
        unlike : Open call ≡ history.Decided a.call r → ⊥
        unlike h = cc
    by_stage call table _ undecided at knows = none (holds_counts None a.counts) (counts_apart None a.counts f 0)

  by_call : (call : Call) (table : ℕ) (o : Option ActiveCall) → phase t d ≡ Open call → CallIs setup t d table o → Tells (holds_in o)
  by_call call table None undecided at = none nothing refl
  by_call call table (Some a) undecided at = by_stage a call table a.stage undecided at.phase at.knows

pub open_heads_say : (setup : Setting) → IsSetting setup → (t : Trace) → IsMade setup t → OpenHeadsSay setup t
open_heads_say setup setting t made f q d call is mark undecided = record {
  version = told.head.version;
  says = ap head_of_word told.raw ∙ spelling.reads (marked d told.head) fits
      ∙ ap (λ (b : ℕ). Some (record { budget = b; mark = Some d; version = told.head.version })) budget;
}
  where
    stands : Invariant setup (cores_after setup t) t
    stands = made_stands setup setting t made

    below : d < setup.cores
    below = holder_below setup setting (cores_after setup t) t stands d f 0 mark

    told : IsMarkedHead setup t f d (holds (cores_after setup t d))
    told = by_call setup setting (cores_after setup t) t stands f d (subst (λ x. IsTrue (is_tcap x)) (sym is) refl) below call
        (cores_after setup t d).own.table (cores_after setup t d).active undecided (stands.each d below).active
        ((stands.marks (EntryAt f 0) d).owned mark)

    fits : HeadFits (marked d told.head)
    fits = (told.fits.0, (let most = setting.most_cores in omega (arith, most, below)), told.fits.2)

    same_head : (v u : HeadWord) → Some v ≡ Some u → v ≡ u
    same_head v u h = cc

    says : HeadIs q (Some told.head)
    says = subst (HeadIs q) (ap head_of_word told.stands ∙ spelling.reads told.head told.fits)
        (marked_says setup setting (cores_after setup t) t stands f q is d mark)

    budget : told.head.budget ≡ q.budget
    budget = ap (λ v. v.budget) (same_head _ _ says.says)
