-- The steps of a core over words that nobody else changes: what stands after so many of them.
use Rattle.std.specs.Prelude.{◌≡◌, ◌+◌, ◌<◌, ◌++◌, zero, suc}
use Rattle.flight_laws.specs.core_invariant.specs.{ℕ, List, [], length, slice_index, Some, None, Decision, size_of, told_of, decision_at}
use Rattle.flight_laws.specs.core_invariant.specs.{Core, IsCore, absorbed, move_of, Absorbed, steps_left}
use Rattle.boot_words.specs.kernel_rules.specs.{Reply}
use Rattle.call_steps.specs.call_stages.specs.declared.stages.Absorbed.TheVariants.{Going, Returned}
use Rattle.lone_kernel.specs.Machine.{place_next, said_by, words_after}

-- the words, the core that makes the steps on them, and what it has told of the step made last
pub record Run : Type 0 where
  pub words : List ℕ
  pub core : Core
  pub last : Absorbed

-- what its next step finds
abbrev pub found_next : Run → ℕ
found_next r = slice_index r.words (place_next r.core.own.layout r.core)

-- one step more
abbrev pub run_on : Run → Run
run_on r = record {
  words = words_after r.core.own.layout r.words r.core (found_next r);
  core = absorbed r.core (told_of (move_of r.core) (found_next r));
  last = said_by r.core (found_next r);
}

-- what stands after so many steps of a core on these words
abbrev pub run : List ℕ → Core → ℕ → Run
run words core zero = record { words = words; core = core; last = Going }
run words core (suc n) = run_on (run words core n)

-- these words stand after so many steps, and the core fits its machine; with the steps that are left to it they are few
pub record AreMade (words : List ℕ) (core : Core) (made : ℕ) (now : List ℕ) : Type 0 where
  pub words_are : now ≡ (run words core made).words
  pub size : length now ≡ size_of (run words core made).core.own.layout
  pub fits : IsCore (run words core made).core
  pub few : made + steps_left (run words core made).core < 1000

-- a core has told this last, which is that it has returned, and its reply is noted as the decision of its call of this index
pub record NotesReply (said : Absorbed) (noted after : List Decision) (c index : ℕ) : Type 0 where
  pub reply : Reply
  pub told : said ≡ Returned reply
  pub decisions_are : after ≡ noted ++ decision_at (Some reply) c index

-- a core has made its call on these words, which left those and this core, and its reply is noted
pub record MakesCall (words : List ℕ) (core : Core) (after : List ℕ) (core' : Core) (noted decisions : List Decision) (c index : ℕ)
    : Type 0 where
  pub made : ℕ
  pub words_are : after ≡ (run words core made).words
  pub core_is : core' ≡ (run words core made).core
  pub notes : NotesReply (run words core made).last noted decisions c index

-- a core in no call, for a place where none is named
abbrev pub no_core : Core
no_core = record {
  own = record {
    core = 0;
    layout = record { cores = 0; frames = 0 };
    table = 0;
    limit = 0;
    epochs = 0;
    made = 0;
    exit = 0;
    thread = 0;
    depth = 0;
    comp = 0;
    pages = 0;
    tcap = 0;
    owed = 0;
    spent = 0;
    back = 0;
    grant = (0, 0);
    cached = [];
  };
  active = None;
}
