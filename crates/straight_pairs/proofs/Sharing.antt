-- What the words make of a core whose call is on two temporal capabilities.
use Rattle.std.proofs.Common.{◌≡◌, ◌+◌, ℕ, nat_lt, Bool, true, List, [], Option, Some, None, refl, subst}
use Rattle.spk_nums.specs.Capability.{Capability}
use Rattle.spk_nums.specs.declared.calls.Call.{Call}
use Rattle.spk_nums.specs.declared.replies.Reply.{Reply}
use Rattle.spk_nums.specs.declared.replies.Reply.TheVariants.{Ok}
use Rattle.spk_nums.specs.declared.replies.Value.{Value}
use Rattle.spk_nums.specs.declared.replies.Value.TheVariants.{Nothing}
use Rattle.spk_nums.specs.declared.steps.StageEnd.TheVariants as end
use Rattle.straight_looks.specs.core_words.specs.Due.{due_of}
use Rattle.straight_looks.specs.step_starts.specs as low
use low.word_map.specs.Moves.{op_of}
use low.act_states.specs.declared.own.Own.{Own}
use low.act_states.specs.declared.work.Act.TheVariants as act
use low.act_states.specs.declared.work.Tail.TheVariants as tail
use low.act_states.specs.declared.work.Work.TheVariants.{Act}
use low.stage_tcap.specs.Pairs.{PairFits, pair_after, pair_end, pair_move, store_next}
use low.stage_tcap.specs.declared.pair.Pair.{Pair}
use low.stage_tcap.specs.declared.pair.PairAt.TheVariants.{StoreA, StoreB, StoreList}
use low.call_stages.specs.View.{Core}
use low.call_stages.specs.Cores.{absorbed, own_decided, told_of_step}
use low.call_stages.specs.Fits.{IsCore}
use low.call_stages.specs.declared.stages.Absorbed.{Absorbed}
use low.call_stages.specs.declared.stages.ActiveCall.{ActiveCall}
use low.call_stages.specs.declared.stages.Stage.TheVariants.{Decided, Undecided}
use Rattle.straight_looks.proofs.Fitting.{act_fits}
use Rattle.straight_looks.specs.Outcomes.{Fell, IsStanding}
use Rattle.straight_looks.specs.Standing.{going}
use Rattle.straight_pairs.specs.Sharing.{HasShared, HasStored, IsDeciding, IsSharing}
use Rattle.straight_pairs.specs.Taking.{DecidesTo, GoesTo}

-- the next step of a pair
pub sharing_due : (own : Own) (call : Call) (steps : ℕ) (ks : List Capability) (p : Pair) (c : Core) → IsSharing own call steps ks p c
    → due_of c ≡ Some (op_of own.layout (pair_move p))
sharing_due own call steps ks p c at = rw at.core refl

pub sharing_fits : (own : Own) (call : Call) (steps : ℕ) (ks : List Capability) (p : Pair) (c : Core) → IsSharing own call steps ks p c
    → PairFits own.layout p
sharing_fits own call steps ks p c at = act_fits own call steps (act.Share p) ks c at.core at.fits

-- it goes on, is decided, or is left to the step machine
pub shared_on : (own : Own) (call : Call) (steps w : ℕ) (ks : List Capability) (p q : Pair) (b c : Core) → IsSharing own call steps ks p b
    → c ≡ absorbed b w → IsCore c → GoesTo p w q → IsSharing own call (steps + 1) ks q c
shared_on own call steps w ks p q b c at goes fits on = record { core = rw (goes, at.core, on.ends, on.after) refl; fits = fits }

pub shared_decides : (own : Own) (call : Call) (steps w : ℕ) (ks : List Capability) (v : Value) (p q : Pair) (b c : Core)
    → IsSharing own call steps ks p b → c ≡ absorbed b w → IsCore c → DecidesTo p w v q → IsDeciding own call (steps + 1) ks v q c
shared_decides own call steps w ks v p q b c at goes fits by =
    record { core = rw (goes, at.core, by.ends, by.after) refl; fits = fits }

pub shared_falls : (own : Own) (call : Call) (steps w : ℕ) (ks : List Capability) (p : Pair) (b c : Core) (told : Absorbed)
    → IsSharing own call steps ks p b → c ≡ absorbed b w → told ≡ told_of_step b w → HasShared own call steps ks p c told w
shared_falls own call steps w ks p b c told at goes tells = record {
  fits = subst IsCore at.core at.fits;
  core = rw (goes, at.core) refl;
  told = rw (tells, at.core) refl;
}

-- where it is written down
pub sharing_stands : (own : Own) (call : Call) (steps : ℕ) (ks : List Capability) (p : Pair) (active : Option ActiveCall) (c : Core)
    → IsSharing own call steps ks p c → active ≡ Some (going call steps (Undecided (Act (act.Share p))) ks []) → IsStanding own active c
sharing_stands own call steps ks p active c at stands =
    record { core = rw (at.core, stands) refl; fits = at.fits; in_call = rw stands refl }

pub sharing_fell : (own : Own) (call : Call) (steps w : ℕ) (ks : List Capability) (p : Pair) (active : Option ActiveCall) (c : Core)
    (told : Absorbed)
    → HasShared own call steps ks p c told w → active ≡ Some (going call steps (Undecided (Act (act.Share p))) ks [])
    → Fell own active c told w
sharing_fell own call steps w ks p active c told at stands = record {
  core = rw (at.core, stands) refl;
  told = rw (at.told, stands) refl;
  fits = rw stands at.fits;
  in_call = rw stands refl;
}

-- the next store of a pair that is decided
pub storing_due : (own : Own) (call : Call) (steps : ℕ) (ks : List Capability) (v : Value) (p : Pair) (c : Core)
    → IsDeciding own call steps ks v p c → due_of c ≡ Some (op_of own.layout (pair_move p))
storing_due own call steps ks v p c at = rw at.core refl

pub storing_fits : (own : Own) (call : Call) (steps : ℕ) (ks : List Capability) (v : Value) (p : Pair) (c : Core)
    → IsDeciding own call steps ks v p c → PairFits own.layout p
storing_fits own call steps ks v p c at = (subst IsCore at.core at.fits).active.stage.fits

-- one more is to come
pub stores_on : (own : Own) (call : Call) (steps w : ℕ) (ks : List Capability) (v : Value) (p q : Pair) (b c : Core)
    → IsDeciding own call steps ks v p b → c ≡ absorbed b w → IsCore c → pair_end p w ≡ end.Going → q ≡ pair_after p w
    → IsDeciding own call (steps + 1) ks v q c
stores_on own call steps w ks v p q b c at goes fits ends after =
    record { core = rw (goes, at.core, ends, after) refl; fits = fits }

pub stores_list : (own : Own) (call : Call) (steps w entry : ℕ) (ks : List Capability) (v : Value) (p q : Pair) (b c : Core)
    → IsDeciding own call steps ks v p b → c ≡ absorbed b w → IsCore c → p.at ≡ StoreList entry
    → q ≡ record p { at = store_next (nat_lt entry 8) entry } → IsDeciding own call (steps + 1) ks v q c
stores_list own call steps w entry ks v p q b c at goes fits is now =
    record { core = rw (goes, at.core, now, is) refl; fits = fits }

pub stores_head : (own : Own) (call : Call) (steps w : ℕ) (ks : List Capability) (v : Value) (p q : Pair) (b c : Core)
    → IsDeciding own call steps ks v p b → c ≡ absorbed b w → IsCore c → p.at ≡ StoreB → q ≡ record p { at = StoreA true Nothing }
    → IsDeciding own call (steps + 1) ks v q c
stores_head own call steps w ks v p q b c at goes fits is now = record { core = rw (goes, at.core, now, is) refl; fits = fits }

-- or it was the last
pub stores_last : (own : Own) (call : Call) (steps w : ℕ) (ks : List Capability) (v x : Value) (moved : Bool) (p : Pair) (b c : Core)
    → IsDeciding own call steps ks v p b → c ≡ absorbed b w → IsCore c → p.at ≡ StoreA moved x → HasStored own v c
stores_last own call steps w ks v x moved p b c at goes fits stands = record {
  answered = record { call = call; steps = steps + 1; found = ks; drawn = None; is = rw (goes, at.core, stands) refl };
  fits = fits;
}

pub stores_done : (own : Own) (call : Call) (steps w : ℕ) (ks : List Capability) (v x : Value) (p : Pair) (b c : Core)
    → IsDeciding own call steps ks v p b → c ≡ absorbed b w → IsCore c → pair_end p w ≡ end.Done x → HasStored own v c
stores_done own call steps w ks v x p b c at goes fits ends = record {
  answered = record { call = call; steps = steps + 1; found = ks; drawn = None; is = rw (goes, at.core, ends) refl };
  fits = fits;
}

pub stores_decided : (own : Own) (call : Call) (steps w : ℕ) (ks : List Capability) (v : Value) (r : Reply) (p : Pair) (b c : Core)
    → IsDeciding own call steps ks v p b → c ≡ absorbed b w → IsCore c → pair_end p w ≡ end.Decided r → HasStored own v c
stores_decided own call steps w ks v r p b c at goes fits ends = record {
  answered = record { call = call; steps = steps + 1; found = ks; drawn = None; is = rw (goes, at.core, ends) refl };
  fits = fits;
}

pub stores_refused : (own : Own) (call : Call) (steps w : ℕ) (ks : List Capability) (v : Value) (r : Reply) (p : Pair) (b c : Core)
    → IsDeciding own call steps ks v p b → c ≡ absorbed b w → IsCore c → pair_end p w ≡ end.Refuse r → HasStored own v c
stores_refused own call steps w ks v r p b c at goes fits ends = record {
  answered = record { call = call; steps = steps + 1; found = ks; drawn = None; is = rw (goes, at.core, ends) refl };
  fits = fits;
}

-- where that is written down
pub storing_stands : (own own' : Own) (call : Call) (steps : ℕ) (ks : List Capability) (v : Value) (p : Pair) (active : Option ActiveCall)
    (c : Core)
    → IsDeciding own call steps ks v p c → own' ≡ own_decided own (Ok v)
    → active ≡ Some (going call steps (Decided (Ok v) None (tail.Share p)) ks []) → IsStanding own' active c
storing_stands own own' call steps ks v p active c at has stands =
    record { core = rw (at.core, has, stands) refl; fits = at.fits; in_call = rw stands refl }
