-- What a step leaves of that on which a call's knowledge of its act rests.
use Rattle.core_invariant.proofs.{◌≡◌, ℕ, ◌&&◌, [], ◌∷◌, ◌++◌, List, Bool, true, false, ◌∙◌, ap, ◌==◌, sym, false≢true, Capability, Setting}
use Rattle.core_invariant.proofs.{Call, EntryAt, CountAt, FrameAt, LiveAt, Step, Trace, state_after, own_read, last_left, stamp, Quiet}
use Rattle.core_invariant.proofs.{AtCore, AtFlush, Untype as untype_act, Share as share_act, Refill as refill_act, Switch as switch_act}
use Rattle.core_invariant.proofs.{Work, Lookup, Read, Scan, Acquire, Act, dues, ActiveCall, Due, Pair, SweepAt, Compare as sweep_compare}
use Rattle.core_invariant.proofs.{Empty as sweep_empty, UntypingAt, HasThread, claimed_by}
use Rattle.core_invariant.specs.act_states.specs.{phases_of, Refill, Load as sweep_load, Scan as sweep_scan}
use Rattle.core_invariant.specs.{Shares.KnowsShare, Refills.KnowsRefill, Reaching.IsUser}
use Rattle.{core_invariant.proofs.is_claimed, core_invariant.specs.is_start, core_invariant.specs.KnowsQuiet}
use Rattle.{core_invariant.specs.act_states.specs.declared.work.Act.Act as ActOf, kept_facts.proofs.Swept.LeavesFrame}

-- The frame whose words an act has stored.
abbrev pub stores_in : ActOf → ℕ → Bool
stores_in act f = (phases_of act).stores f

abbrev pub stores_of : Work → ℕ → Bool
stores_of (Lookup look) f = false
stores_of (Read comp look) f = false
stores_of (Scan q act) f = stores_in act f
stores_of (Acquire pin change act) f = stores_in act f
stores_of (Act act) f = stores_in act f

-- The counter on which an act that makes a frame untyped is to step next, and the frame of which it has looked at the object.
abbrev pub freezes : SweepAt → Bool
freezes sweep_load = false
freezes (sweep_compare count stamp) = true
freezes (sweep_scan q) = false
freezes (sweep_empty entry) = false

abbrev pub looks_at : SweepAt → Bool
looks_at sweep_load = false
looks_at (sweep_compare count stamp) = false
looks_at (sweep_scan q) = false
looks_at (sweep_empty entry) = true

abbrev pub freezes_at : UntypingAt → Bool
freezes_at UntypingAt.Load = false
freezes_at (UntypingAt.Mark word v) = false
freezes_at (UntypingAt.Sweep word w) = freezes w.at
freezes_at (UntypingAt.Draw word w) = false

abbrev pub looks_in : UntypingAt → Bool
looks_in UntypingAt.Load = false
looks_in (UntypingAt.Mark word v) = false
looks_in (UntypingAt.Sweep word w) = looks_at w.at
looks_in (UntypingAt.Draw word w) = true

abbrev pub reads_counts : ActOf → Bool
reads_counts (untype_act m) = freezes_at m.at
reads_counts _ = false

abbrev pub looked_in : ActOf → ℕ → Bool
looked_in (untype_act m) f = looks_in m.at && f == m.frame
looked_in _ f = false

abbrev pub looked_of : Work → ℕ → Bool
looked_of (Lookup look) f = false
looked_of (Read comp look) f = false
looked_of (Scan q act) f = looked_in act f
looked_of (Acquire pin change act) f = looked_in act f
looked_of (Act act) f = looked_in act f

-- Whether an act has claimed the thread in a frame.
abbrev pub claimed_in : ActOf → ℕ → Bool
claimed_in (switch_act m) f = is_claimed m.at && f == claimed_by m.at
claimed_in act f = false

abbrev pub claimed_of : Work → ℕ → Bool
claimed_of (Lookup look) f = false
claimed_of (Read comp look) f = false
claimed_of (Scan q act) f = claimed_in act f
claimed_of (Acquire pin change act) f = claimed_in act f
claimed_of (Act act) f = claimed_in act f

-- A step leaves each thread that core c guards a thread that it guards, and those that it has claimed as they were.
pub record KeepsThreads (setup : Setting) (t : Trace) (e : Step) (c : ℕ) (claimed : ℕ → Bool) : Type 0 where
  pub guards : (f : ℕ) → HasThread (state_after setup t) c f → HasThread (state_after setup (e ∷ t)) c f
  pub rests : (f : ℕ) → claimed f ≡ true → HasThread (state_after setup t) c f
      → (state_after setup (e ∷ t)).frame f ≡ (state_after setup t).frame f

-- A step leaves each user frame of which core c holds its count, and the count held.
abbrev pub KeepsUsers : Setting → Trace → Step → ℕ → Type 0
KeepsUsers setup t e c = (f : ℕ) → IsUser setup t c f → IsUser setup (e ∷ t) c f

-- What is known of two temporal capabilities stays known, and of one that is given ticks back; no count is acquired and no core scanned
-- for an act on them.
pub record PairsStay (setup : Setting) (t : Trace) (e : Step) (c : ℕ) (act : ActOf) : Type 0 where
  pub shares : (p : Pair) → act ≡ share_act p → (of : Call) (ks : List Capability) → KnowsShare setup t c of ks p
      → KnowsShare setup (e ∷ t) c of ks p
  pub refills : (r : Refill) → act ≡ refill_act r → (of : Call) (ks : List Capability) → KnowsRefill setup t c of ks r
      → KnowsRefill setup (e ∷ t) c of ks r

pub start_pairs : (setup : Setting) (t : Trace) (e : Step) (c : ℕ) (act : ActOf) → is_start act ≡ true → PairsStay setup t e c act
start_pairs setup t e c act starts = record {
  shares = λ p is of ks has. absurd (false≢true (sym (ap is_start is) ∙ starts));
  refills = λ r is of ks has. absurd (false≢true (sym (ap is_start is) ∙ starts));
}

pub due_pairs : (setup : Setting) (t : Trace) (e : Step) (c : ℕ) (act : ActOf) (before : List Due) (due : Due) (rest : List Due)
    → dues act ≡ before ++ due ∷ rest → PairsStay setup t e c act
due_pairs setup t e c act before due rest has_due = record {
  shares = λ p is of ks has. absurd (none before (sym (ap dues is) ∙ has_due));
  refills = λ r is of ks has. absurd (none before (sym (ap dues is) ∙ has_due));
}
  where
    none : (xs : List Due) → [] ≡ xs ++ due ∷ rest → ⊥
    none [] h = cc
    none (x ∷ xs) h = cc

pub quiet_starts : (setup : Setting) (t : Trace) (c : ℕ) (a : ActiveCall) (q : Quiet) (act : ActOf) → KnowsQuiet setup t c a q act
    → is_start act ≡ true
quiet_starts setup t c a (AtCore at core upto page) act has = has.starts
quiet_starts setup t c a (AtFlush at upto) act has = has.starts

-- A step leaves what the core's last steps on entries, on frames' words and on liveness words have read, and the words of the frame that
-- the act has stored; and user frames of which it holds its count; and what its last step on the counter has read that it is to freeze, and
-- a frame of which it has looked at the object; and threads.
pub record ReadsSame (setup : Setting) (t : Trace) (e : Step) (c : ℕ) (act : ActOf) : Type 0 where
  pub entries : (f i : ℕ) → own_read (e ∷ t) c (EntryAt f i) ≡ own_read t c (EntryAt f i)
  pub frames : (f : ℕ) → own_read (e ∷ t) c (FrameAt f) ≡ own_read t c (FrameAt f)
  pub numbers : (l : ℕ) → own_read (e ∷ t) c (LiveAt l) ≡ own_read t c (LiveAt l)
  pub stored : (f i : ℕ) → stores_in act f ≡ true → last_left setup (e ∷ t) (EntryAt f i) ≡ last_left setup t (EntryAt f i)
  pub users : KeepsUsers setup t e c
  pub counts : reads_counts act ≡ true → (f d : ℕ) → own_read (e ∷ t) c (CountAt f d) ≡ own_read t c (CountAt f d)
  pub rests : (f : ℕ) → looked_in act f ≡ true → LeavesFrame (state_after setup t) (state_after setup (e ∷ t)) f
  pub threads : KeepsThreads setup t e c (λ f. claimed_in act f)
  pub pairs : PairsStay setup t e c act
