-- What is known of where capabilities come from, and when it stands for the events of a run.
use Rattle.std.specs.Prelude.{◌≡◌, ◌<◌, ◌^◌, ◌∷◌}
use Rattle.call_judge.specs.seq_state.specs.{ℕ, List, Option, Some, option_map, option_and_then, Setting, IsSetting, Event, after, IsRun}
use Rattle.origin_rules.specs.{ChainValue, decided, origin_of, chain_of}
use Rattle.{call_judge.specs.seq_state.specs.state_of, call_judge.specs.seq_state.specs.Represents}
use Rattle.{call_judge.specs.seq_state.specs.Maps.Maps, origin_rules.specs.Chains.held_at}
use Rattle.{origin_rules.specs.Chains.with_origin, confinement.specs.Links.Table, confinement.specs.Links.origin_at}

-- The sequential kernel's state, the origin of each place, and how many calls were decided.
pub record Known : Type 0 where
  pub kernel : Maps
  pub table : Table
  pub decided : ℕ

-- It stands for the events of a run: the kernel represents the state after them, and each place of the machine has its origin.
pub record StandsFor (setting : Setting) (events : List Event) (o : Known) : Type 0 where
  pub kernel : Represents o.kernel (after setting events)
  pub origins : (f i : ℕ) → f < setting.frames → i < 64 → origin_at o.table f i ≡ Some (origin_of setting events f i)
  pub decided : o.decided ≡ decided events

-- One more event of a run is taken. Fewer than 2^32 decisions are.
abbrev pub Takes : Known → Event → Known → Type 0
Takes o e o' = (setting : Setting) → IsSetting setting → (events : List Event) → IsRun setting (e ∷ events)
    → decided (e ∷ events) < 2 ^ 32 → StandsFor setting events o → StandsFor setting (e ∷ events) o'

-- The chain of what a place holds.
abbrev pub chain_known : Known → ℕ → ℕ → Option ChainValue
chain_known o f i = option_and_then (λ k. option_map (λ r. with_origin r k) (origin_at o.table f i)) (held_at (state_of o.kernel) f i)

-- It is that of the definitions, for each run whose events were taken.
abbrev pub IsChainOf : Known → ℕ → ℕ → Option ChainValue → Type 0
IsChainOf o f i found = (setting : Setting) → IsSetting setting → (events : List Event) → IsRun setting events
    → StandsFor setting events o → found ≡ chain_of setting events f i
