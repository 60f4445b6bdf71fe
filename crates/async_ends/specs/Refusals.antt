-- What a legal endpoint history refuses: worked histories of two cores, each of which breaks one rule.
use Rattle.spk_nums.specs.{Capability.cap_of, declared.kinds.Kind.TheVariants.Gate, declared.kinds.Kind.TheVariants.Comp}
use Rattle.async_ends.specs.{declared.asks.Look.Look, Looks.look, Events.Added, Events.Loaded, Events.Took, Events.Missed, Events.Event}
use Rattle.{std.specs.Prelude.[], std.specs.Prelude.◌∷◌, std.specs.Prelude.List, spk_nums.specs.declared.replies.Value.TheVariants.Cap}
use Rattle.{spk_nums.specs.declared.replies.Reply.Reply, async_ends.specs.Events.event, async_ends.specs.Events.IsLegal}

-- Capability 20 is a gate to component 3, and capability 3 that component.
abbrev pub gate_look : Look
gate_look = look 20 (Reply.Ok (Cap (cap_of Gate 3 0)))

abbrev pub comp_look : Look
comp_look = look 3 (Reply.Ok (Cap (cap_of Comp 3 0)))

-- Core 1 sends one to component 3.
abbrev pub sends : List Event → List Event
sends h = event 1 3 (Added gate_look) ∷ h

-- Core 1 has sent one, and core 0's receive has loaded it.
abbrev pub one_loaded : List Event
one_loaded = event 0 3 (Loaded comp_look 1) ∷ sends []

pub record HistoriesRefuse : Type 0 where
  -- Where another send came between the load and the compare, the receive misses.
  pub misses : IsLegal (event 0 3 (Missed 2) ∷ sends one_loaded)
  -- It misses neither where that send came before the load alone, nor takes another count than the one that it has loaded.
  pub nothing_between : IsLegal (event 0 3 (Missed 1) ∷ one_loaded) → ⊥
  pub another_count : IsLegal (event 0 3 (Took 2) ∷ sends one_loaded) → ⊥
  -- It takes what it has loaded.
  pub takes : IsLegal (event 0 3 (Took 1) ∷ one_loaded)
  -- No compare without a load, none after one that found 0, and no load of another count than there is.
  pub not_loaded : IsLegal (event 0 3 (Missed 1) ∷ sends []) → ⊥
  pub none_loaded : IsLegal (event 0 3 (Took 0) ∷ event 0 3 (Loaded comp_look 0) ∷ []) → ⊥
  pub more_loaded : IsLegal (event 0 3 (Loaded comp_look 2) ∷ sends []) → ⊥
  -- A core begins no call within another, and none at a frame to which its look has not led.
  pub within : IsLegal (event 0 3 (Added gate_look) ∷ one_loaded) → ⊥
  pub elsewhere : IsLegal (event 1 4 (Added gate_look) ∷ []) → ⊥
  pub another_kind : IsLegal (event 0 3 (Loaded gate_look 0) ∷ []) → ⊥
