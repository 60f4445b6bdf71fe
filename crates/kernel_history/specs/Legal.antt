-- When a trace is a legal history.
use Rattle.std.specs.Prelude.{◌≡◌, ◌≢◌, ◌<◌, ◌^◌, ◌∷◌}
use Rattle.kernel_rules.specs.{[], Option, Some, None, Call, Reply, Setting, InLimits, MayReply}
use Rattle.word_map.specs.{IsIn, word_of, left_of}
use Rattle.kernel_history.specs.{BootWords.shape_of, Justified.IsJustified, Trace.Step, Trace.Trace, Trace.Phase, Trace.Out, Trace.Open}
use Rattle.kernel_history.specs.{Trace.Decided, Trace.phase, Trace.after_enter, Trace.after_decide, Trace.state_before, Trace.last_left}

-- A call within its limits is entered between calls alone.
abbrev pub MayEnter : Option Call → Phase → Type 0
MayEnter None p = Unit {0}
MayEnter (Some call) p = (p ≡ Out) × InLimits call

-- An open call is decided with a reply that the call relation permits in the state, and that is justified.
pub record DecidesBy (setup : Setting) (t : Trace) (e : Step) (r : Reply) (p : Phase) : Type 0 where
  pub call : Call
  pub is_open : p ≡ Open call
  pub permitted : MayReply (state_before setup t e) e.core call r
  pub justified : IsJustified setup t e call r

-- A step decides nothing, or decides by the rule.
abbrev pub MayDecide : Setting → Trace → Step → Option Reply → Phase → Type 0
MayDecide setup t e None p = Unit {0}
MayDecide setup t e (Some r) p = DecidesBy setup t e r p

-- A decided call returns the reply decided.
pub record ReturnsBy (r : Reply) (p : Phase) : Type 0 where
  pub call : Call
  pub was_decided : p ≡ Decided call r

-- A step returns nothing, or returns by the rule.
abbrev pub MayReturn : Option Reply → Phase → Type 0
MayReturn None p = Unit {0}
MayReturn (Some r) p = ReturnsBy r p

-- The step e may follow the trace t: it is of a core of the machine, on a word of the machine,
-- finds the value last left in that word and leaves one of 64 bits, and stands in a call of its core, which it may enter,
-- decide and return from.
pub record MayFollow (setup : Setting) (t : Trace) (e : Step) : Type 0 where
  pub is_core : e.core < setup.cores
  pub is_in : IsIn (shape_of setup) (word_of e.move)
  pub found : e.found ≡ last_left setup t (word_of e.move)
  pub small : left_of e.move e.found < 2 ^ 64
  pub enters : MayEnter e.enters (phase t e.core)
  pub in_call : after_enter e.enters (phase t e.core) ≢ Out
  pub decides : MayDecide setup t e e.decides (after_enter e.enters (phase t e.core))
  pub returns : MayReturn e.returns (after_decide e.decides (after_enter e.enters (phase t e.core)))

-- A trace is legal where each of its steps may follow those before it.
abbrev pub IsLegal : Setting → Trace → Type 0
IsLegal setup [] = Unit {0}
IsLegal setup (e ∷ t) = IsLegal setup t × MayFollow setup t e
