-- What a port tells of worlds, by projections of the record of a history.
use Rattle.core_machine.specs.core_kernel.specs.flight_laws.specs as low
use low.flight.specs.step_ways.proofs.{inl, inr, ℕ, List, [], Ok, Err, sym, subst, Setting, Call, Reply, CoreEnd, Trace, state_after}
use Rattle.core_machine.specs.core_kernel.specs.{HasSeen, MakesCall, EndsAt, KernelValue, CoreSeatValue}
use Rattle.std.proofs.Common.{IfOk, Result}
use low.isolation_laws.specs.world_laws.specs.{IsSealed, AreApart}
use Rattle.seat_laws.specs.Ports.{TellsOfWorlds, StaySince, EndsInWorlds}
use low.{Histories.IsHistory, isolation_laws.specs.Worlds.WorldsStay}

of_worlds : (setup : Setting) (t : Trace) → IsHistory setup t → TellsOfWorlds setup t
of_worlds setup t history = record {
  authority = history.have_authority;
  spared = history.worlds_spared;
  entered = history.worlds_entered;
  stay = history.worlds_stay;
}

pub tells : (port : CoreSeatValue) → HasSeen port → TellsOfWorlds port.kernel.setup port.seen
tells port seen = of_worlds port.kernel.setup port.seen seen.history

pub stay_since : (older newer : CoreSeatValue) (call : Call) (r : Reply) → MakesCall older call r newer → HasSeen newer
    → StaySince older newer
stay_since older newer call r makes seen =
    let history : IsHistory older.kernel.setup newer.seen =
    subst (λ (k : KernelValue). IsHistory k.setup newer.seen) makes.kernel seen.history in
    let stay : WorldsStay older.kernel.setup makes.since older.seen = history.worlds_stay [] makes.since older.seen makes.begins in
    record {
      since = makes.since;
      begins = makes.begins;
      apart = λ w crosses only apart. subst (λ (u : Trace). AreApart w crosses (state_after older.kernel.setup u)) (sym makes.begins)
          (stay.apart w crosses only apart);
      sealed = λ w crosses only sealed. elim (stay.sealed w crosses only sealed) [
        | inl h ↦ inl (subst (λ (u : Trace). IsSealed w crosses (state_after older.kernel.setup u)) (sym makes.begins) h)
        | inr by ↦ inr by
      ];
    }

pub ends_in_worlds : (kernel : KernelValue) (seats : List CoreSeatValue) (words : List ℕ) (ends : List CoreEnd)
    → EndsAt kernel seats words ends → EndsInWorlds kernel seats words ends
ends_in_worlds kernel seats words ends end = record {
  trace = end.trace;
  represent = end.represent;
  worlds = of_worlds kernel.setup end.trace end.history;
  apart = λ k port at w crosses only apart.
      let goes = end.begins k port at in
      subst (λ (u : Trace). AreApart w crosses (state_after kernel.setup u)) (sym goes.begins)
      ((end.history.worlds_stay [] goes.since port.seen goes.begins).apart w crosses only apart);
}

-- What follows of each value follows of the one that there is, if there is one.
pub of_ok : {T E : Type 0} {P Q : T → Type 0} (r : Result T E) → ((x : T) → P x → Q x) → IfOk r P → IfOk r Q
of_ok (Ok x) law h = law x h
of_ok (Err e) law h = tt
