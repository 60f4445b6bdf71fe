-- Histories in which each core is in the same phase, but for what its calls are answered.
use Rattle.world_laws.specs.kernel_rules.proofs.{◌≡◌, inl, inr, ℕ, ◌<◌, ◌==◌, Bool, true, false, refl, sym, ◌∙◌, ap, subst, if◌then◌else◌}
use Rattle.world_laws.specs.kernel_rules.proofs.{IsTrue, List, [], ◌∷◌, false≢true, Setting, Call, Event, Enters, Decides, Returns, Phase}
use Rattle.world_laws.specs.kernel_rules.proofs.{Out, Open, Decided, is_in, is_decided, core_of, phase_by, phase_of, IsRun}
use Rattle.{std.proofs.lemmas.Bool.cases_eq, world_laws.specs.kernel_rules.specs.Runs.MayFollow}
use Rattle.{world_laws.specs.kernel_invariant.proofs.SoundRuns.phase_other}

-- Two phases are one, but for the reply.
abbrev pub SamePhase : Phase → Phase → Type 0
SamePhase Out Out = Unit {0}
SamePhase (Open a) (Open b) = a ≡ b
SamePhase (Decided a r) (Decided b q) = Unit {0}
SamePhase _ _ = ⊥

pub phase_same : (p : Phase) → SamePhase p p
phase_same Out = tt
phase_same (Open a) = refl
phase_same (Decided a r) = tt

pub same_out : (p q : Phase) → SamePhase p q → p ≡ Out → q ≡ Out
same_out Out Out same is = refl
same_out (Open a) (Open b) same is = absurd (false≢true (sym (ap is_in is)))
same_out (Decided a r) (Decided b q) same is = absurd (false≢true (sym (ap is_in is)))
same_out Out (Open b) same is = absurd same
same_out Out (Decided b q) same is = absurd same
same_out (Open a) Out same is = absurd same
same_out (Open a) (Decided b q) same is = absurd same
same_out (Decided a r) Out same is = absurd same
same_out (Decided a r) (Open b) same is = absurd same

pub same_open : (p q : Phase) (call : Call) → SamePhase p q → p ≡ Open call → q ≡ Open call
same_open p q call same is = by_phase q (subst (λ x. SamePhase x q) is same)
  where
    by_phase : (q : Phase) → SamePhase (Open call) q → q ≡ Open call
    by_phase (Open b) same = ap Open (sym same)
    by_phase Out same = absurd same
    by_phase (Decided b r) same = absurd same

pub same_decided : (p q : Phase) → SamePhase p q → IsTrue (is_decided p) → IsTrue (is_decided q)
same_decided (Decided a r) (Decided b q) same is = refl
same_decided (Decided a r) Out same is = absurd same
same_decided (Decided a r) (Open b) same is = absurd same
same_decided Out q same is = absurd (false≢true is)
same_decided (Open a) q same is = absurd (false≢true is)

pub same_in : (p q : Phase) → SamePhase p q → is_in p ≡ is_in q
same_in Out Out same = refl
same_in (Open a) (Open b) same = refl
same_in (Decided a r) (Decided b q) same = refl
same_in Out (Open b) same = absurd same
same_in Out (Decided b q) same = absurd same
same_in (Open a) Out same = absurd same
same_in (Open a) (Decided b q) same = absurd same
same_in (Decided a r) Out same = absurd same
same_in (Decided a r) (Open b) same = absurd same

-- After one more event of the same core.
pub same_after : (e : Event) (f : Event) (events other : List Event) → core_of e ≡ core_of f → SamePhase (phase_by e) (phase_by f)
    → ((d : ℕ) → SamePhase (phase_of events d) (phase_of other d)) → (d : ℕ) → SamePhase (phase_of (e ∷ events) d) (phase_of (f ∷ other) d)
same_after e f events other core new old d =
    subst (λ c. SamePhase (if d == core_of e then phase_by e else phase_of events d) (if d == c then phase_by f else phase_of other d)) core
    (by_test (d == core_of e))
  where
    by_test : (b : Bool) → SamePhase (if b then phase_by e else phase_of events d) (if b then phase_by f else phase_of other d)
    by_test true = new
    by_test false = old d

pub decided_in : (p : Phase) → is_decided p ≡ true → is_in p ≡ true
decided_in (Decided a r) is = refl
decided_in Out is = absurd (false≢true is)
decided_in (Open a) is = absurd (false≢true is)

-- A core that is in a call is one of the machine's.
pub in_call_below : (setting : Setting) (events : List Event) → IsRun setting events → (c : ℕ) → is_in (phase_of events c) ≡ true
    → c < setting.cores
in_call_below setting [] run c is = absurd (false≢true is)
in_call_below setting (e ∷ events) run c is = elim (cases_eq c (core_of e)) [
  | inl same ↦ subst (λ d. d < setting.cores) (sym same) (by_event (λ d. in_call_below setting events run.0 d) e run.1)
  | inr other ↦ in_call_below setting events run.0 c (ap is_in (sym (phase_other e events c other)) ∙ is)
]
  where
    by_event : ((d : ℕ) → is_in (phase_of events d) ≡ true → d < setting.cores) → (e : Event) → MayFollow setting events e
        → core_of e < setting.cores
    by_event before (Enters d call) may = may.is_core
    by_event before (Decides d call r) may = before d (ap is_in may.is_open)
    by_event before (Returns d) may = before d (decided_in (phase_of events d) may)
