-- The state of a core as contracts see it.
use Rattle.{std.specs.Prelude.Option, act_states.specs.declared.own.Own.Own, call_stages.specs.declared.stages.ActiveCall.ActiveCall}

-- a core: what it has of its own, and its call, if it is in one
pub record Core : Type 0 where
  pub own : Own
  pub active : Option ActiveCall
