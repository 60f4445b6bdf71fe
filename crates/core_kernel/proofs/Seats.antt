-- What seats have seen: each alone, after a call, after a meet, and all of them at the end.
use Rattle.flight_laws.specs.flight.specs.step_ways.proofs.{◌≡◌, ℕ, ◌<◌, List, [], ◌∷◌, Option, Some, None, IsSomeAnd, sym, ◌∙◌, ap, subst}
use Rattle.flight_laws.specs.flight.specs.step_ways.proofs.{Call, Reply, Setting, state_after, IsCore}
use Rattle.core_kernel.specs.{running, trace_of, EndsWith, IsBooted, IsSeat, seat_value, GoesOn, HasSeen, Extends, ExtendsByOthers}
use Rattle.turn_rule.specs.{SeatValue, FollowsTrace, declared.view.Entry.Entry, Seats.NoteValue}
use Rattle.core_kernel.proofs.{Along.along, Along.is_history, Along.is_out, Along.here, Balance.one_reply, Lists.steps_since}
use Rattle.{core_kernel.specs.MakesCall, core_kernel.specs.Meets, flight_laws.specs.flight.proofs.Made.made_stands}
use Rattle.{core_kernel.specs.declared.core_run.CoreRun.CoreRun, core_kernel.specs.Kernel.note_value}
use Rattle.{core_kernel.proofs.Lists.trace_of-append, core_kernel.proofs.Lists.others_since}
use Rattle.turn_rule.specs.Trace as table
use Rattle.turn_rule.specs.Seats as turns

-- what holds of each seat
pub has_seen : (setup : Setting) (s : SeatValue CoreRun Call) → IsSeat setup s → HasSeen (seat_value setup s)
has_seen setup s is = record {
  history = is_history setup is.booted.setting s.table.start is.booted.start s.seen is.follows.sound;
  between = is_out setup is.booted.setting s.table.start is.booted.start s.seen is.follows.sound s.core s.program is.follows.runs
      is.between;
}

-- the seat's core is one of the machine's
pub front_inside : (setup : Setting) (s : SeatValue CoreRun Call) → IsSeat setup s → s.core < setup.cores
front_inside setup s is = here setup is.booted.setting s.table.start is.booted.start s.seen s.core s.program is.follows.runs

-- where the seat's core stands
pub front_core : (setup : Setting) (s : SeatValue CoreRun Call) → IsSeat setup s → s.program.state.own.core ≡ s.core
front_core setup s is =
    let a = along setup is.booted.setting s.table.start is.booted.start s.seen is.follows.sound in
    let inside = here setup is.booted.setting s.table.start is.booted.start s.seen s.core s.program is.follows.runs in
    ap (λ k. k.own.core) (a.runs s.core s.program is.follows.runs)
    ∙ ((made_stands setup is.booted.setting (trace_of setup s.seen) a.made).each s.core inside).number

pub front_calls : (setup : Setting) (s : SeatValue CoreRun Call) → IsSeat setup s
    → s.program.state.own.made ≡ ((state_after setup (trace_of setup s.seen)).core s.core).counted
front_calls setup s is =
    let a = along setup is.booted.setting s.table.start is.booted.start s.seen is.follows.sound in
    let inside = here setup is.booted.setting s.table.start is.booted.start s.seen s.core s.program is.follows.runs in
    ap (λ k. k.own.made) (a.runs s.core s.program is.follows.runs)
    ∙ ((made_stands setup is.booted.setting (trace_of setup s.seen) a.made).each s.core inside).works.made

-- and its core is in its ranges
pub seat_fits : (setup : Setting) (s : SeatValue CoreRun Call) → IsSeat setup s → IsCore s.program.state
seat_fits setup s is =
    let a = along setup is.booted.setting s.table.start is.booted.start s.seen is.follows.sound in
    let inside = here setup is.booted.setting s.table.start is.booted.start s.seen s.core s.program is.follows.runs in
    subst IsCore (sym (a.runs s.core s.program is.follows.runs))
    ((made_stands setup is.booted.setting (trace_of setup s.seen) a.made).each s.core inside).fits

-- a seat that has gone on is one
pub still_seat : (setup : Setting) (seat on : SeatValue CoreRun Call) (calls : List Call) → IsSeat setup seat → GoesOn setup seat calls on
    → on.program.state.active ≡ None → IsSeat setup on
still_seat setup seat on calls is goes between = record {
  booted = subst (IsBooted setup) (sym goes.table) is.booted;
  follows = goes.follows;
  between = between;
}

-- a seat that has gone on through one call has made it
pub makes_call : (setup : Setting) (seat on : SeatValue CoreRun Call) (call : Call) (r : Reply) → IsSeat setup seat
    → GoesOn setup seat (call ∷ []) on → on.program.state.active ≡ None
    → on.program.last ≡ Some r → MakesCall (seat_value setup seat) call r (seat_value setup on)
makes_call setup seat on call r is goes between last =
    let now = still_seat setup seat on (call ∷ []) is goes between in
    let ends : EndsWith on.core r (trace_of setup on.seen) =
    of_last on.program.last (λ r. EndsWith on.core r (trace_of setup on.seen)) last (goes.returned between) in
    let mine : EndsWith seat.core r (trace_of setup on.seen) = subst (λ (i : ℕ). EndsWith i r (trace_of setup on.seen)) goes.core ends in
    let seen = has_seen setup seat is in
    record {
      since = goes.since;
      begins = goes.begins;
      calls = goes.calls;
      replies = one_reply setup seat.core goes.since (trace_of setup seat.seen) (trace_of setup on.seen) call r
          (has_seen setup on now).history.legal goes.begins seen.history.legal seen.between goes.calls mine;
      returns = mine;
      core = goes.core;
      kernel = λ i. record { table = goes.table i; setup = setup };
    }
  where
    of_last : (o : Option Reply) (F : Reply → Type 0) → o ≡ Some r → IsSomeAnd o F → F r
    of_last o F is h = subst (λ p. IsSomeAnd p F) is h

module _ (setup : Setting) where
  pub extends_by_others : (c : ℕ) (x y : List (Entry Call)) → table.ExtendsByOthers c x y
      → ExtendsByOthers c (trace_of setup x) (trace_of setup y)
  extends_by_others c x y h = record {
    since = steps_since setup h.since x;
    begins = ap (trace_of setup) h.whole ∙ trace_of-append setup h.since x;
    apart = others_since setup c h.since x h.apart;
  }

  extends : (x y : List (Entry Call)) → table.Extends x y → Extends (trace_of setup x) (trace_of setup y)
  extends x y h = record { since = steps_since setup h.since x; begins = ap (trace_of setup) h.whole ∙ trace_of-append setup h.since x }

  -- a seat that has met a note is one
  pub met_seat : (seat met : SeatValue CoreRun Call) (note : NoteValue CoreRun Call) → IsSeat setup seat → turns.Meets seat note met
      → FollowsTrace running met → IsSeat setup met
  met_seat seat met note is m follows = record {
    booted = subst (IsBooted setup) (sym m.table) is.booted;
    follows = follows;
    between = ap (λ p. p.state.active) m.program ∙ is.between;
  }

  -- and has seen what the note tells
  pub meets : (seat met : SeatValue CoreRun Call) (note : NoteValue CoreRun Call) → turns.Meets seat note met
      → Meets (seat_value setup seat) (note_value setup note) (seat_value setup met)
  meets seat met note m = record {
    own = extends_by_others seat.core seat.seen met.seen m.own;
    told = extends note.seen met.seen m.told;
    core = m.core;
    kernel = λ i. record { table = m.table i; setup = setup };
  }
