-- What the words make of a core whose call is carried out, and stores what it changes of its thread's stack.
use Rattle.std.proofs.Common.{◌≡◌, ◌+◌, ◌<◌, ◌≤◌, ℕ, true, List, [], ◌∷◌, Option, Some, None, refl, subst, arith}
use Rattle.std.proofs.lemmas.List.Elements.{All-head}
use Rattle.spk_nums.specs.declared.replies.Reply.TheVariants.{Ok}
use Rattle.spk_nums.specs.declared.replies.Value.TheVariants.{Nothing}
use Rattle.straight_looks.specs.core_words.specs.Due.{due_of}
use Rattle.straight_looks.specs.step_starts.specs as low
use low.act_states.specs.declared.own.Own.{Own}
use low.act_states.specs.declared.work.Tail.{Tail}
use low.act_states.specs.declared.work.Tail.TheVariants as tail
use low.word_map.specs.Moves.{op_of}
use low.stage_pins.specs.Held.{AcquiredFits, commit_of}
use low.stage_pins.specs.Commit.{settle_move}
use low.stage_pins.specs.declared.held.Acquired.{Acquired}
use low.stage_thread.specs.Stacking.{PopFits, PushFits, pop_move, push_move}
use low.stage_thread.specs.declared.stack.Pop.{Pop}
use low.stage_thread.specs.declared.stack.Push.{Push}
use low.call_stages.specs.View.{Core}
use low.call_stages.specs.Cores.{absorbed}
use low.call_stages.specs.Fits.{IsCore, IsOwn}
use Rattle.straight_looks.specs.Standing.{IsAnswered}
use Rattle.straight_entries.specs.Entering.{IsStoring}

-- what the core has of its own fits, before its call is counted too
pub own_before : (own : Own) (t : Tail) (drawn : Option ℕ) (x : Acquired) (c : Core) → IsStoring own t drawn x c → IsCore c
    → own.made < own.limit → IsOwn own
own_before own t drawn x c at fits room =
    let h = (subst IsCore at.is fits).own in
    record {
      shape = h.shape;
      core = h.core;
      thread = h.thread;
      some_depth = h.some_depth;
      most_depth = h.most_depth;
      comp = h.comp;
      table = h.table;
      pages = h.pages;
      tcap = h.tcap;
      most_calls = h.most_calls;
      most_epochs = h.most_epochs;
      made = omega arith;
    }

-- the two stores of a push
pub push_due : (own : Own) (p : Push) (drawn : Option ℕ) (x : Acquired) (c : Core) → IsStoring own (tail.Push p) drawn x c
    → due_of c ≡ Some (op_of own.layout (push_move p))
push_due own p drawn x c at = rw at.is refl

pub push_fits : (own : Own) (p : Push) (drawn : Option ℕ) (x : Acquired) (c : Core) → IsStoring own (tail.Push p) drawn x c → IsCore c
    → PushFits own.layout p
push_fits own p drawn x c at fits = (subst IsCore at.is fits).active.stage

pub pushed_on : (own : Own) (t core depth comp w : ℕ) (drawn : Option ℕ) (x : Acquired) (c : Core)
    → IsStoring own (tail.Push (Push.AtStack t core depth comp)) drawn x c
    → IsStoring own (tail.Push (Push.AtThread t core depth)) drawn x (absorbed c w)
pushed_on own t core depth comp w drawn x c at =
    record { call = at.call; steps = at.steps + 1; found = at.found; is = rw at.is refl }

pub risen : (own : Own) (t core depth w : ℕ) (drawn : Option ℕ) (x : Acquired) (c : Core)
    → IsStoring own (tail.Push (Push.AtThread t core depth)) drawn x c → IsStoring own tail.Nothing drawn x (absorbed c w)
risen own t core depth w drawn x c at = record { call = at.call; steps = at.steps + 1; found = at.found; is = rw at.is refl }

-- the two stores of a pop
pub pop_due : (own : Own) (p : Pop) (drawn : Option ℕ) (x : Acquired) (c : Core) → IsStoring own (tail.Pop p) drawn x c
    → due_of c ≡ Some (op_of own.layout (pop_move p))
pop_due own p drawn x c at = rw at.is refl

pub pop_fits : (own : Own) (p : Pop) (drawn : Option ℕ) (x : Acquired) (c : Core) → IsStoring own (tail.Pop p) drawn x c → IsCore c
    → PopFits own.layout p
pop_fits own p drawn x c at fits = (subst IsCore at.is fits).active.stage

pub popped : (own : Own) (t core depth w : ℕ) (drawn : Option ℕ) (x : Acquired) (c : Core)
    → IsStoring own (tail.Pop (Pop.AtThread t core depth)) drawn x c → IsStoring own (tail.Pop (Pop.AtStack t depth)) drawn x (absorbed c w)
popped own t core depth w drawn x c at = record { call = at.call; steps = at.steps + 1; found = at.found; is = rw at.is refl }

pub popped_off : (own : Own) (t depth w : ℕ) (drawn : Option ℕ) (x : Acquired) (c : Core)
    → IsStoring own (tail.Pop (Pop.AtStack t depth)) drawn x c → IsStoring own tail.Nothing drawn x (absorbed c w)
popped_off own t depth w drawn x c at = record { call = at.call; steps = at.steps + 1; found = at.found; is = rw at.is refl }

-- the commit of the count
pub settle_due : (own : Own) (drawn : Option ℕ) (x : Acquired) (c : Core) → IsStoring own tail.Nothing drawn x c
    → due_of c ≡ Some (op_of own.layout (settle_move (commit_of true drawn x)))
settle_due own drawn x c at = rw at.is refl

pub settle_fits : (own : Own) (drawn : Option ℕ) (x : Acquired) (c : Core) → IsStoring own tail.Nothing drawn x c → IsCore c
    → AcquiredFits own.layout x
settle_fits own drawn x c at fits = All-head (AcquiredFits own.layout) x [] (subst IsCore at.is fits).active.acquired

pub settled : (own : Own) (w : ℕ) (drawn : Option ℕ) (x : Acquired) (c : Core) → IsStoring own tail.Nothing drawn x c
    → IsAnswered own (Ok Nothing) (absorbed c w)
settled own w drawn x c at = record { call = at.call; steps = at.steps + 1; found = at.found; drawn = drawn; is = rw at.is refl }
