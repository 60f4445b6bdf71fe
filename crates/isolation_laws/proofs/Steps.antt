-- What a step of a legal trace does to the state: of a decision that is carried out, what the sequential kernel says of it; of all else,
-- at most that its core is another, which runs on the same.
use Rattle.kernel_history.proofs.{◌≡◌, ◌≢◌, ◌⊎◌, inl, inr, ℕ, ◌+◌, true, false, refl, sym, ◌∙◌, ap, subst, ◌∷◌, Option, Some, None, Setting}
use Rattle.kernel_history.proofs.{Call, Tick, Value, Reply, Place, Frame, Liveness, Core, State, with_core, thread_in, tcap_in, counted}
use Rattle.kernel_history.proofs.{owed_by, state_by, Decides, after, IsRun, put_same, put_other, Step, Phase, Out, Decided, phase}
use Rattle.kernel_history.proofs.{after_enter, state_after, state_before, state_entered, state_decided, state_returned, with_decision}
use Rattle.kernel_history.proofs.{IsLegal, entered_events, before_is, decided_run, run_of, Kind}
use Rattle.world_laws.specs.authority_laws.specs.{bare_of, Part, PlaceIs, FrameIs, StackIs, RunsIs, BudgetIs, ListIs, NumberIs, CoreIs}
use Rattle.{world_laws.specs.authority_laws.specs.Stays, world_laws.specs.authority_laws.specs.SamePart, std.proofs.lemmas.Bool.cases_eq}
use Rattle.{kernel_history.specs.Trace.Trace, kernel_history.specs.Trace.Open, isolation_laws.specs.Carried.CarriesOut}

-- From s to t at most core c is another, and it runs on the same thread and temporal capability; or grace periods change.
pub record OnlyCore (s t : State) (c : ℕ) : Type 0 where
  pub place : t.place ≡ s.place
  pub frame : t.frame ≡ s.frame
  pub number : t.number ≡ s.number
  pub thread : (t.core c).thread ≡ (s.core c).thread
  pub tcap : (t.core c).tcap ≡ (s.core c).tcap
  pub others : (d : ℕ) → d ≢ c → t.core d ≡ s.core d

pub same_core : (s : State) (c : ℕ) → OnlyCore s s c
same_core s c = record { place = refl; frame = refl; number = refl; thread = refl; tcap = refl; others = λ d other. refl }

core_only : (s : State) (c : ℕ) (k : Core) → k.thread ≡ (s.core c).thread → k.tcap ≡ (s.core c).tcap → OnlyCore s (with_core s c k) c
core_only s c k thread tcap = record {
  place = refl;
  frame = refl;
  number = refl;
  thread = ap (λ (x : Core). x.thread) (put_same s.core c k c refl) ∙ thread;
  tcap = ap (λ (x : Core). x.tcap) (put_same s.core c k c refl) ∙ tcap;
  others = λ d other. put_other s.core c k d other;
}

pub only_on : (s t u : State) (c : ℕ) → OnlyCore s t c → OnlyCore t u c → OnlyCore s u c
only_on s t u c a b = record {
  place = b.place ∙ a.place;
  frame = b.frame ∙ a.frame;
  number = b.number ∙ a.number;
  thread = b.thread ∙ a.thread;
  tcap = b.tcap ∙ a.tcap;
  others = λ d other. b.others d other ∙ a.others d other;
}

pub entered_only : (o : Option Call) (s : State) (c : ℕ) → OnlyCore s (state_entered o s c) c
entered_only None s c = same_core s c
entered_only (Some call) s c = core_only s c (record (s.core c) { inside = true }) refl refl

pub returned_only : (o : Option Reply) (s : State) (c : ℕ) → OnlyCore s (state_returned o s c) c
returned_only None s c = same_core s c
returned_only (Some r) s c =
    let h = core_only s c (record (s.core c) { inside = false }) refl refl in
    record { place = h.place; frame = h.frame; number = h.number; thread = h.thread; tcap = h.tcap; others = h.others }

-- ---- decisions

counted_only : (s u : State) (c : ℕ) → OnlyCore s u c → OnlyCore s (counted u c) c
counted_only s u c h =
    only_on s u (counted u c) c h (core_only u c (record (u.core c) { counted = (u.core c).counted + 1 }) refl refl)

owed_only : (s : State) (c : ℕ) (call : Call) → OnlyCore s (owed_by s c call) c
owed_only s c (Tick n) = core_only s c (record (s.core c) { owed = (s.core c).owed + n }) refl refl
owed_only s c _ = same_core s c

record IsOk (r : Reply) : Type 0 where
  value : Value
  is : r ≡ Reply.Ok value

-- A refusal leaves all but its core.
decided_only : (s : State) (c : ℕ) (call : Call) (r : Reply) → OnlyCore s (state_by s c call r) c ⊎ IsOk r
decided_only s c call (Reply.Ok v) = inr (record { value = v; is = refl })
decided_only s c call Reply.CallsSpent = inl (same_core s c)
decided_only s c call Reply.Raced = inl (counted_only s (owed_by s c call) c (owed_only s c call))
decided_only s c call (Reply.Busy d) = inl (counted_only s (owed_by s c call) c (owed_only s c call))
decided_only s c call _ = inl (counted_only s s c (same_core s c))

-- The step e carries out a call, where it decides so in this phase: the events go on by that decision.
pub record CarriesIn (setup : Setting) (t : Trace) (e : Step) (o : Option Reply) (p : Phase) : Type 0 where
  pub call : Call
  pub value : Value
  pub is_open : p ≡ Open call
  pub decides : o ≡ Some (Reply.Ok value)
  pub run : IsRun setup (Decides e.core call (Reply.Ok value) ∷ entered_events t e)
  pub left : state_decided o p (state_before setup t e) e.core ≡ state_by (state_before setup t e) e.core call (Reply.Ok value)

by_decision : (setup : Setting) (t : Trace) (e : Step) (o : Option Reply) (p : Phase)
    → IsRun setup (with_decision o p e.core (entered_events t e))
    → OnlyCore (state_before setup t e) (state_decided o p (state_before setup t e) e.core) e.core ⊎ CarriesIn setup t e o p
by_decision setup t e None p run = inl (same_core (state_before setup t e) e.core)
by_decision setup t e (Some r) Out run = inl (same_core (state_before setup t e) e.core)
by_decision setup t e (Some r) (Decided call q) run = inl (same_core (state_before setup t e) e.core)
by_decision setup t e (Some r) (Open call) run = elim (decided_only (state_before setup t e) e.core call r) [
  | inl only ↦ inl only
  | inr ok ↦ inr (record {
    call = call;
    value = ok.value;
    is_open = refl;
    decides = ap (λ (x : Reply). Some x) ok.is;
    run = subst (λ x. IsRun setup (Decides e.core call x ∷ entered_events t e)) ok.is run;
    left = ap (state_by (state_before setup t e) e.core call) ok.is;
  })
]

-- ---- parts of the state

-- The parts of states between which nothing but core c comes.
module _ (s t u v : State) (c : ℕ) (a : OnlyCore s t c) (b : OnlyCore u v c) where
  moved : (f : ℕ) (R : Frame → Frame → Type 0) → R (t.frame f) (u.frame f) → R (s.frame f) (v.frame f)
  moved f R h = subst (λ x. R x (v.frame f)) (ap (λ (g : ℕ → Frame). g f) a.frame)
      (subst (R (t.frame f)) (sym (ap (λ (g : ℕ → Frame). g f) b.frame)) h)

  pub part_on : (x : Part) → SamePart t u x → SamePart s v x ⊎ (x ≡ CoreIs c)
  part_on (PlaceIs f i) h =
      inl (ap (λ (g : ℕ → ℕ → Place). g f i) b.place ∙ h ∙ ap (λ (g : ℕ → ℕ → Place). g f i) a.place)
  part_on (FrameIs f) h = inl (moved f (λ x y. bare_of y ≡ bare_of x) h)
  part_on (StackIs f) h = inl (moved f (λ x y. Stays Kind.Thread x y → (thread_in y).stack ≡ (thread_in x).stack) h)
  part_on (RunsIs f) h = inl (moved f (λ x y. Stays Kind.Thread x y → (thread_in y).runs_on ≡ (thread_in x).runs_on) h)
  part_on (BudgetIs f) h = inl (moved f (λ x y. Stays Kind.Tcap x y → (tcap_in y).budget ≡ (tcap_in x).budget) h)
  part_on (ListIs f) h = inl (moved f (λ x y. Stays Kind.Tcap x y → (tcap_in y).qualities ≡ (tcap_in x).qualities) h)
  part_on (NumberIs l) h = inl (ap (λ (g : ℕ → Liveness). g l) b.number ∙ h ∙ ap (λ (g : ℕ → Liveness). g l) a.number)
  part_on (CoreIs d) h = elim (cases_eq d c) [
    | inl same ↦ inr (ap CoreIs same)
    | inr other ↦ inl (b.others d other ∙ h ∙ a.others d other)
  ]

same_part : (s : State) (x : Part) → SamePart s s x
same_part s (PlaceIs f i) = refl
same_part s (FrameIs f) = refl
same_part s (StackIs f) = λ stays. refl
same_part s (RunsIs f) = λ stays. refl
same_part s (BudgetIs f) = λ stays. refl
same_part s (ListIs f) = λ stays. refl
same_part s (NumberIs l) = refl
same_part s (CoreIs d) = refl

pub part_only : (s t : State) (c : ℕ) → OnlyCore s t c → (x : Part) → SamePart s t x ⊎ (x ≡ CoreIs c)
part_only s t c only x = part_on s s s t c (same_core s c) only x (same_part s x)

-- ---- a step

module _ (setup : Setting) (t : Trace) (e : Step) (legal : IsLegal setup (e ∷ t)) where
  abbrev pub before : State
  before = state_before setup t e

  abbrev pub decided : State
  decided = state_decided e.decides (after_enter e.enters (phase t e.core)) before e.core

  pub into : OnlyCore (state_after setup t) before e.core
  into = entered_only e.enters (state_after setup t) e.core

  pub out_of : OnlyCore decided (state_after setup (e ∷ t)) e.core
  out_of = returned_only e.returns decided e.core

  abbrev pub Carrying : Type 0
  Carrying = CarriesIn setup t e e.decides (after_enter e.enters (phase t e.core))

  -- the step leaves all but its core, or carries out a call
  pub step_does : OnlyCore (state_after setup t) (state_after setup (e ∷ t)) e.core ⊎ Carrying
  step_does = elim (by_decision setup t e e.decides (after_enter e.enters (phase t e.core))
      (decided_run setup t e legal.0 legal.1 (run_of setup t legal.0))) [
        | inl only ↦ inl (only_on (state_after setup t) decided (state_after setup (e ∷ t)) e.core
            (only_on (state_after setup t) before decided e.core into only) out_of)
        | inr carries ↦ inr carries
      ]

  abbrev pub carried : Carrying → CarriesOut t e
  carried k = record { call = k.call; value = k.value; is_open = k.is_open; decides = k.decides }

  -- what is said of a decision in runs holds of the states before it and after it
  pub at_decision : (T : State → State → Type 0) (k : Carrying)
      → T (after setup (entered_events t e)) (after setup (Decides e.core k.call (Reply.Ok k.value) ∷ entered_events t e))
      → T before decided
  at_decision T k h = subst (T before) (sym k.left)
      (subst (λ s. T s (state_by s e.core k.call (Reply.Ok k.value))) (sym (before_is setup t e)) h)
