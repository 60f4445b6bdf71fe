-- How far a call went that is made straight through.
use Rattle.std.specs.Prelude.{◌≡◌, ℕ, None, IsSome}
use Rattle.spk_nums.specs.declared.calls.Call.{Call}
use Rattle.spk_nums.specs.declared.replies.Reply.{Reply}
use Rattle.step_looks.specs.call_stages.specs.Cores.{absorbed, begun, told_of_step}
use Rattle.step_looks.specs.call_stages.specs.View.{Core}
use Rattle.step_looks.specs.call_stages.specs.declared.stages.Absorbed.{Absorbed}
use Rattle.straight_acts.specs.straight_looks.specs.declared.ends.Went.{Went}
use Rattle.straight_acts.specs.straight_looks.specs.declared.ends.Went.TheVariants.{Plainly, Stands, Falls, Returned}

-- a core is to begin this call, and that of the words has begun it
pub record IsBefore (call : Call) (core c : Core) : Type 0 where
  pub between : core.active ≡ None
  pub begins : c ≡ begun core call

-- a core is in its call, and is that of the words
pub record HasStood (core c : Core) : Type 0 where
  pub in_call : IsSome core.active
  pub same : core ≡ c

-- a core is in its call, before a step that has told this word to that of the words
pub record HasFallen (core c : Core) (said : Absorbed) (found : ℕ) : Type 0 where
  pub in_call : IsSome core.active
  pub steps : c ≡ absorbed core found
  pub told : said ≡ told_of_step core found

-- a core has returned, and is that of the words
pub record HasReturned (core c : Core) (said : Absorbed) (r : Reply) : Type 0 where
  pub state : core ≡ c
  pub between : core.active ≡ None
  pub told : said ≡ Absorbed.Returned r

-- how far a call went, by its core and that of the words, which has told this last
abbrev pub HasGone : Call → Core → Core → Absorbed → Went → Type 0
HasGone call core c said Plainly = IsBefore call core c
HasGone call core c said Stands = HasStood core c
HasGone call core c said (Falls found) = HasFallen core c said found
HasGone call core c said (Returned r) = HasReturned core c said r
