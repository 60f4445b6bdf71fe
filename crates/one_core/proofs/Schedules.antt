-- The schedule of an input as one history.
use Rattle.core_kernel.specs.flight_laws.specs.flight.proofs.{◌≡◌, ◌≢◌, ℕ, zero, suc, ◌+◌, ◌<◌, List, [], ◌∷◌, ◌++◌, Ok, All, length, refl}
use Rattle.core_kernel.specs.flight_laws.specs.flight.proofs.{sym, ◌∙◌, ap, subst, arith, inl, inr, get_or as slice_index_or, get_or_past}
use Rattle.core_kernel.specs.flight_laws.specs.flight.proofs.{Setting, InLimits, Call, Trace, Out, phase, calls_of, IsIdle, HasCalls}
use Rattle.std.proofs.lemmas.List.Elements.{All-nil, All-cons, All-head, All-tail, All-get_or}
use Rattle.one_core.specs.Scheduled.{begins_at, SchedTrace, IsSchedText}
use Rattle.{core_kernel.specs.CoreSeatValue, core_kernel.specs.HasSeen, sched_run.specs.sched_reader.specs.Input}
use Rattle.{sched_run.specs.sched_reader.specs.input_of, sched_start.specs.sched_rules.specs.Step}
use Rattle.{sched_start.specs.sched_rules.specs.calls_of as calls_of_turns, std.proofs.lemmas.Bool.cases_lt}
use Rattle.{core_kernel.specs.flight_laws.specs.Histories.IsHistory, one_core_laws.specs.Plainly.IsPlain}
use Rattle.{one_core_laws.proofs.Plain.one_core_is_plain, sched_run.specs.sched_laws.specs.Charging.TurnsCharge}
use Rattle.{sched_run.specs.sched_laws.proofs.Exactly.exact_ticks, sched_run.specs.fixed_prio.specs.Machines.after_calls}
use Rattle.{sched_start.specs.Owing.IsNoTick, sched_start.proofs.Owed.owes_nothing, sched_start.proofs.Taken.takes_no_tick}
use Rattle.{sched_run.specs.Made.calls_in, sched_run.specs.Made.IsSchedMade}

-- What holds of all calls holds of the first.
front : {A : Type 0} (P : A → Type 0) (xs ys : List A) → All P (xs ++ ys) → All P xs
front P [] ys all = All-nil P
front P (x ∷ xs) ys all = All-cons P x xs (All-head P x (xs ++ ys) all) (front P xs ys (All-tail P x (xs ++ ys) all))

none_past : (x : List Call) (c : ℕ) → c ≢ 0 → slice_index_or (x ∷ []) c [] ≡ []
none_past x zero other = absurd (other refl)
none_past x (suc c) other = get_or_past [] c [] (omega arith)

-- A script that is read with tasks has no `tick` in its calls.
no_tick : (source : List ℕ) (input : Input) → input_of source ≡ Ok input → All IsNoTick (calls_in input.script)
no_tick source input read = elim (cases_lt 0 (length input.script.lists)) [
  | inl some ↦ All-get_or (All IsNoTick) input.script.lists 0 [] some (takes_no_tick source input read)
  | inr none ↦ subst (All IsNoTick) (sym (get_or_past input.script.lists 0 [] none)) (All-nil IsNoTick)
]

-- So core 0 owes nothing where the schedule begins.
owes : (source : List ℕ) (input : Input) → input_of source ≡ Ok input → input.script.setup.cores ≡ 1
    → All InLimits (calls_in input.script) → ((after_calls input.script.setup (calls_in input.script)).core 0).owed ≡ 0
unfolding after_calls
owes source input read one fits =
    owes_nothing input.script.setup (omega (arith, one)) (calls_in input.script) fits (no_tick source input read)

module _ (source text : List ℕ) (m : CoreSeatValue) (one : m.kernel.setup.cores ≡ 1) (seen : HasSeen m) (zero_core : m.core ≡ 0)
    (made : IsSchedMade source m.kernel.setup (calls_of m.seen 0) text) where
  abbrev setup : Setting
  setup = made.input.script.setup

  history : IsHistory setup m.seen
  history = subst (λ s. IsHistory s m.seen) made.booted seen.history

  single : setup.cores ≡ 1
  single = subst (λ (s : Setting). s.cores ≡ 1) made.booted one

  plain : IsPlain setup m.seen
  plain = one_core_is_plain setup single m.seen history.legal history.alone (subst (λ c. phase m.seen c ≡ Out) zero_core seen.between)

  abbrev all_calls : List Call
  all_calls = calls_in made.input.script ++ calls_of_turns made.is_made.steps

  idle : (c : ℕ) → IsIdle (all_calls ∷ []) m.seen c
  idle zero = record { out = subst (λ c. phase m.seen c ≡ Out) zero_core seen.between; finished = made.is_made.calls }
  idle (suc c) =
      let other : suc c ≢ 0 = λ e. omega (arith, e) in
      record {
        out = plain.others_out (suc c) other;
        finished = plain.no_others (suc c) other ∙ sym (none_past all_calls (suc c) other);
      }

  limits : All InLimits (calls_in made.input.script)
  limits = front InLimits (calls_in made.input.script) (calls_of_turns made.is_made.steps)
      (subst (All InLimits) made.is_made.calls plain.limits)

  pub scheduled : IsSchedText source text
  scheduled = record {
    input = made.input;
    is_input = made.read;
    is_text = record {
      trace = m.seen;
      history = history;
      steps = made.is_made.steps;
      calls = idle;
      plain = plain;
      schedule = made.is_made.schedule;
      charges = exact_ticks made.input.rule (begins_at made.input) made.is_made.steps made.is_made.schedule
          (owes source made.input made.read single limits);
      is_text = made.is_made.text;
    };
  }
