-- The time of worlds.
use Rattle.std.specs.Prelude.{◌≡◌, ◌⊎◌, ◌+◌, ◌∷◌, ◌++◌}
use Rattle.authority_laws.specs.kernel_rules.specs.{ℕ, Bool, not, cond, List, Setting, IsSetting, Call, Kind}
use Rattle.authority_laws.specs.kernel_rules.specs.{Value, outstanding, tcap_in, sum_below, Event, Decides, after, IsRun}
use Rattle.world_laws.specs.Worlds.{works_in, OnlyGates, AreApart}
use Rattle.{authority_laws.specs.spk_nums.specs.declared.replies.Reply.TheVariants.Ok, authority_laws.specs.kernel_rules.specs.State.State}

-- The ticks of a world: the budgets of its frames, and what the cores have spent and have not had back whose threads are in it.
abbrev pub counted_if : Bool → ℕ → ℕ
counted_if b n = cond b n 0

abbrev pub ticks_in : (ℕ → Bool) → State → ℕ
ticks_in w s =
    sum_below (λ f. counted_if (w f) (tcap_in (s.frame f)).budget) s.limits.frames
    + sum_below (λ c. counted_if (w (s.core c).thread) (outstanding (s.core c))) s.limits.cores

-- A core runs across: its thread, or its temporal capability, is on another side than the component in which it works.
abbrev pub RunsAcross : (ℕ → Bool) → State → ℕ → Type 0
RunsAcross w s c = (w (s.core c).thread ≡ not (w (works_in s c))) ⊎ (w (s.core c).tcap ≡ not (w (works_in s c)))

-- Since `before`, a call of a core that ran across was carried out.
pub record ActsAcross (setting : Setting) (w : ℕ → Bool) (before later : List Event) : Type 0 where
  pub since : List Event
  pub more : List Event
  pub core : ℕ
  pub call : Call
  pub value : Value
  pub is_part : later ≡ more ++ (Decides core call (Ok value) ∷ since)
  pub across : RunsAcross w (after setting (since ++ before)) core

-- Of two worlds that only gates join, or nothing, each has as many ticks at the end of each part of a run as at its beginning, or a core
-- that ran across has carried out a call in this part.
abbrev pub TimeOfWorlds : Type 0
TimeOfWorlds = (setting : Setting) → IsSetting setting → (before later : List Event) → IsRun setting (later ++ before)
    → (w : ℕ → Bool) (crosses : Kind → Bool) → OnlyGates crosses → AreApart w crosses (after setting before)
    → (ticks_in w (after setting (later ++ before)) ≡ ticks_in w (after setting before)) ⊎ ActsAcross setting w before later
