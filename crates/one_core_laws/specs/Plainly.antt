-- A history of one core is the sequential kernel's run of its calls.
use Rattle.std.specs.Prelude.{◌≡◌, ◌≢◌, ◌∷◌, ◌++◌}
use Rattle.kernel_history.specs.{ℕ, List, [], All, map, Some, Setting, InLimits, Call, Reply, start, Step, Out, phase}
use Rattle.kernel_history.specs.{calls_of, decisions_of, state_after, IsLegal, KeepsFirst}
use Rattle.kernel_history.specs.kernel_rules.specs.{plain_reply, plain_replies, plain_steps}
use Rattle.kernel_history.specs.Trace.{Trace}

-- The replies decided in the trace, in order.
abbrev pub replies_in : Trace → List Reply
replies_in t = map (λ d. d.reply) (decisions_of t)

-- The trace has made the calls of core 0 as the sequential kernel does, one after another from the start, each within its limits: these
-- are its replies, and this is the state that it leaves. No other core has made a call.
pub record IsPlain (setup : Setting) (t : Trace) : Type 0 where
  pub state : state_after setup t ≡ plain_steps (start setup) 0 (calls_of t 0)
  pub replies : replies_in t ≡ plain_replies (start setup) 0 (calls_of t 0)
  pub limits : All InLimits (calls_of t 0)
  pub no_others : (c : ℕ) → c ≢ 0 → calls_of t c ≡ []
  pub others_out : (c : ℕ) → c ≢ 0 → phase t c ≡ Out

-- A legal history of one core, in which calls made alone answer as in the sequential kernel, is such once the core is between calls.
abbrev pub OneCoreIsPlain : Type 0
OneCoreIsPlain = (setup : Setting) → setup.cores ≡ 1 → (t : Trace) → IsLegal setup t → KeepsFirst setup t → phase t 0 ≡ Out
    → IsPlain setup t

-- In such a history, the step e returns the reply of the sequential kernel in the state after the calls before the last.
abbrev pub ReturnsPlainly : Type 0
ReturnsPlainly = (setup : Setting) → setup.cores ≡ 1 → (e : Step) (t : Trace) → IsLegal setup (e ∷ t) → KeepsFirst setup (e ∷ t)
    → (r : Reply) → e.returns ≡ Some r → (before : List Call) (call : Call) → calls_of (e ∷ t) 0 ≡ before ++ call ∷ []
    → r ≡ plain_reply (plain_steps (start setup) 0 before) 0 call
