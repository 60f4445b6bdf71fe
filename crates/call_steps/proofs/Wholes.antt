-- What a step leaves of a core's call, and its next step, as whole calls need them.
use Rattle.std.proofs.Common.{◌≡◌, ℕ, Option, Some, None, IsSome, refl}
use Rattle.straight_acts.specs.core_words.specs.Due.{due_of}
use Rattle.step_looks.specs.word_map.specs.Moves.{op_of}
use Rattle.step_looks.specs.act_states.specs.declared.own.Own.{Own}
use Rattle.spk_nums.specs.declared.replies.Reply.{Reply}
use Rattle.step_looks.specs.call_stages.specs.View.{Core}
use Rattle.step_looks.specs.call_stages.specs.Cores.{absorbed, absorbed_in, core_after, move_of, told_by, told_in, told_of_step}
use Rattle.step_looks.specs.call_stages.specs.Steps.{Took, GoesOn, Decides, Returns, Changes, took}
use Rattle.step_looks.specs.call_stages.specs.declared.stages.ActiveCall.{ActiveCall}
use Rattle.step_looks.specs.call_stages.specs.declared.stages.Absorbed.{Absorbed}

-- a core in a call has a next step
due_in : (own : Own) (active : Option ActiveCall) → IsSome active
    → due_of (record { own = own; active = active }) ≡ Some (op_of own.layout (move_of (record { own = own; active = active })))
due_in own None some = absurd (cc)
due_in own (Some a) some = refl

pub due_some : (c : Core) → IsSome c.active → due_of c ≡ Some (op_of c.own.layout (move_of c))
due_some c some = due_in c.own c.active some

-- what it has told says whether it is in a call still
after_return : (own : Own) (t : Took) (r : Reply) → told_by t ≡ Absorbed.Returned r → (core_after own t).active ≡ None
after_return own (GoesOn a) r is = absurd (cc)
after_return own (Decides s a) r is = absurd (cc)
after_return own (Returns s stamp) r is = refl
after_return own (Changes s change a) r is = absurd (cc)

after_going : (own : Own) (t : Took) → told_by t ≡ Absorbed.Going → IsSome (core_after own t).active
after_going own (GoesOn a) is = refl
after_going own (Decides s a) is = absurd (cc)
after_going own (Returns s stamp) is = absurd (cc)
after_going own (Changes s change a) is = absurd (cc)

after_decided : (own : Own) (t : Took) (r : Reply) → told_by t ≡ Absorbed.Decided r → IsSome (core_after own t).active
after_decided own (GoesOn a) r is = absurd (cc)
after_decided own (Decides s a) r is = refl
after_decided own (Returns s stamp) r is = absurd (cc)
after_decided own (Changes s change a) r is = refl

returned_in : (own : Own) (active : Option ActiveCall) (found : ℕ) (r : Reply) → IsSome active
    → told_in own active found ≡ Absorbed.Returned r → (absorbed_in own active found).active ≡ None
returned_in own None found r some is = absurd (cc)
returned_in own (Some a) found r some is = after_return own (took own a found) r is

going_in : (own : Own) (active : Option ActiveCall) (found : ℕ) → IsSome active
    → told_in own active found ≡ Absorbed.Going → IsSome (absorbed_in own active found).active
going_in own None found some is = absurd (cc)
going_in own (Some a) found some is = after_going own (took own a found) is

decided_in : (own : Own) (active : Option ActiveCall) (found : ℕ) (r : Reply) → IsSome active
    → told_in own active found ≡ Absorbed.Decided r → IsSome (absorbed_in own active found).active
decided_in own None found r some is = absurd (cc)
decided_in own (Some a) found r some is = after_decided own (took own a found) r is

pub returned_none : (c : Core) (found : ℕ) (r : Reply) → IsSome c.active → told_of_step c found ≡ Absorbed.Returned r
    → (absorbed c found).active ≡ None
returned_none c found r some is = returned_in c.own c.active found r some is

pub goes_some : (c : Core) (found : ℕ) → IsSome c.active → told_of_step c found ≡ Absorbed.Going → IsSome (absorbed c found).active
goes_some c found some is = going_in c.own c.active found some is

pub decided_some : (c : Core) (found : ℕ) (r : Reply) → IsSome c.active → told_of_step c found ≡ Absorbed.Decided r
    → IsSome (absorbed c found).active
decided_some c found r some is = decided_in c.own c.active found r some is

pub ruleset absorbing = (due_some, returned_none, goes_some, decided_some)
