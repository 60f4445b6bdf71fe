-- A turn of a seat as steps of the kernel.
use Rattle.flight_laws.specs.flight.specs.step_ways.proofs as low
use low.{◌≡◌, ℕ, zero, suc, List, [], ◌∷◌, ◌++◌, Option, Some, None, IsSome, IsSomeAnd, option_to_list, refl, sym, ◌∙◌, ap, subst}
use low.{append_assoc, Call, Reply, Setting, Step, Trace, calls_of, calls_of-own, Core, returned_in, move_of, absorbed}
use low.{told_of_step, told_of}
use Rattle.turn_rule.specs.{entry, called, program_after, IsSound, SeatValue, MakesStep, FollowsTrace, Turns, TurnsOn}
use Rattle.turn_rule.specs.Seats as turns
use Rattle.core_kernel.specs.{running, step_by, trace_of, EndsWith, IsBooted, GoesOn}
use Rattle.core_kernel.specs.{declared.core_run.CoreRun.CoreRun, Running.answered, Seen.core_by, Turns.HasReturned}
use Rattle.core_kernel.proofs.Along.{along, EntryIs, entry_is, next_none}
use Rattle.core_kernel.proofs.Lists.{calls_of-append, calls_of-others, steps_since, trace_of-append, others_since}
use Rattle.flight_laws.specs.core_invariant.specs.{WordOp}
use Rattle.{turn_rule.specs.declared.view.Entry.Entry, turn_rule.specs.declared.view.Start.Start, turn_rule.proofs.Traces.program_stays}
use Rattle.flight_laws.specs.flight.proofs.AfterStep.{absorbed_returns}

some_and : {A : Type 0} (o : Option A) (x : A) (F : A → Type 0) → o ≡ Some x → F x → IsSomeAnd o F
some_and o x F is h = subst (λ p. IsSomeAnd p F) (sym is) h

the_same : {A : Type 0} (x y : A) (o : Option A) → o ≡ Some x → o ≡ Some y → x ≡ y
the_same x y o i j = cc

-- a core whose step leaves it between calls keeps the reply that the step returns
returns_kept : (p : CoreRun) (core : Core) (last : Option Reply) (n : ℕ)
    → p ≡ record { state = absorbed core n; last = answered last (returned_in (told_of_step core n)) } → IsSome core.active
    → p.state.active ≡ None
    → (r : Reply) × (p.last ≡ Some r) × (returned_in (told_of_step core n) ≡ Some r)
returns_kept p core last n is some none =
    let r = absorbed_returns core n some (ap (λ q. q.state.active) (sym is) ∙ none) in
    (r.0, ap (λ q. q.last) is ∙ ap (answered last) r.1, r.1)

module _ (setup : Setting) (seat : SeatValue CoreRun Call) (call : Option Call) (op : WordOp) (made : SeatValue CoreRun Call)
    (booted : IsBooted setup seat.table) (before : FollowsTrace running seat)
    (next : running.next (called running seat.program call) ≡ Some op)
    (m : MakesStep running seat call op made) (follows : FollowsTrace running made) where
  abbrev c : ℕ
  c = seat.core

  abbrev e : Entry Call
  e = entry c op m.found call

  abbrev older : List (Entry Call)
  older = m.others ++ seat.seen

  abbrev start : Start CoreRun
  start = seat.table.start

  sound : IsSound running start (e ∷ older)
  sound = subst (λ (z : Start CoreRun × List (Entry Call)). IsSound running z.0 z.1)
      (λ i. (ap (λ t. t.start) m.table i, m.seen i)) follows.sound

  same_program : sound.1.program ≡ seat.program
  same_program = the_same sound.1.program seat.program (program_after running start older c) sound.1.runs
      (program_stays running start c m.others seat.seen m.apart ∙ before.runs)

  is : EntryIs setup older e seat.program
  is = subst (EntryIs setup older e) same_program
      (entry_is setup booted.setting start booted.start older e sound.1 (along setup booted.setting start booted.start older sound.0))

  abbrev core : Core
  core = core_by setup (trace_of setup older) e

  abbrev step : Step
  step = step_by setup (trace_of setup older) e

  abbrev since : Trace
  since = step ∷ steps_since setup m.others seat.seen

  begins : trace_of setup made.seen ≡ since ++ trace_of setup seat.seen
  begins = ap (trace_of setup) m.seen ∙ ap (λ l. step ∷ l) (trace_of-append setup m.others seat.seen)

  calls : calls_of since c ≡ option_to_list call
  calls = calls_of-own c step (steps_since setup m.others seat.seen) refl
      ∙ ap (λ l. l ++ option_to_list call) (calls_of-others c (steps_since setup m.others seat.seen)
      (others_since setup c m.others seat.seen m.apart))

  abbrev kept : Option Reply
  kept = (called running seat.program call).last

  program_is : made.program ≡ record {
    state = absorbed core (told_of (move_of core) m.found);
    last = answered kept (returned_in (told_of_step core (told_of (move_of core) m.found)));
  }
  program_is = m.program
      ∙ ap (λ (z : Core × ℕ). record { state = absorbed z.0 z.1; last = answered kept (returned_in (told_of_step z.0 z.1)) })
      (λ i. (is.core i, is.told op next i))

  returned : HasReturned setup made
  returned none =
      let r = returns_kept made.program core kept (told_of (move_of core) m.found) program_is is.in_call none in
      some_and made.program.last r.0 (λ r. EndsWith made.core r (trace_of setup made.seen)) r.1 record {
        step = step;
        older = trace_of setup older;
        whole = ap (trace_of setup) m.seen;
        own = sym m.core;
        returns = r.2;
      }

  pub goes : GoesOn setup seat (option_to_list call) made
  goes = record { since = since; begins = begins; calls = calls; core = m.core; table = m.table; follows = follows; returned = returned }

-- a seat that goes on twice
pub goes_further : (setup : Setting) (u v w : SeatValue CoreRun Call) (xs ys : List Call) → GoesOn setup u xs v → GoesOn setup v ys w
    → GoesOn setup u (xs ++ ys) w
goes_further setup u v w xs ys a b = record {
  since = b.since ++ a.since;
  begins = b.begins ∙ ap (λ l. b.since ++ l) a.begins ∙ sym (append_assoc b.since a.since (trace_of setup u.seen));
  calls = calls_of-append u.core b.since a.since ∙ ap (λ l. l ++ calls_of b.since u.core) a.calls
      ∙ ap (λ l. xs ++ l) (ap (calls_of b.since) (sym a.core) ∙ b.calls);
  core = b.core ∙ a.core;
  table = b.table ∙ a.table;
  follows = b.follows;
  returned = b.returned;
}

-- a seat goes on by each of the turns that it makes
goes_by_turns : (setup : Setting) (seat u v : SeatValue CoreRun Call) (call : Call) → IsBooted setup seat.table
    → GoesOn setup seat (call ∷ []) u → (n : ℕ) → TurnsOn running n u v → GoesOn setup seat (call ∷ []) v
goes_by_turns setup seat u v call booted g zero same = subst (GoesOn setup seat (call ∷ [])) (sym same) g
goes_by_turns setup seat u v call booted g (suc n) t =
    let on : SeatValue CoreRun Call = t.0 in
    let turn : Turns running u None on = t.1 in
    let here : IsBooted setup u.table = subst (IsBooted setup) (sym g.table) booted in
    let one = goes setup u None turn.op on here g.follows turn.next turn.makes turn.follows in
    goes_by_turns setup seat on v call booted (goes_further setup seat u on (call ∷ []) [] g one) n t.2

-- and by the whole call, after which its core is between calls
pub whole_goes : (setup : Setting) (seat made : SeatValue CoreRun Call) (call : Call) → IsBooted setup seat.table
    → FollowsTrace running seat → turns.MakesCall running seat call made → GoesOn setup seat (call ∷ []) made
whole_goes setup seat made call booted before m =
    let first = m.first in
    let one = goes setup seat (Some call) first.op m.begun booted before first.next first.makes first.follows in
    goes_by_turns setup seat m.begun made call booted one m.count m.rest

pub whole_ends : (seat made : SeatValue CoreRun Call) (call : Call) → turns.MakesCall running seat call made
    → made.program.state.active ≡ None
whole_ends seat made call m = next_none made.program.state made.program.state.active m.idle
