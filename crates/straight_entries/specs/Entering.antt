-- Where a component is entered or left straight through.
use Rattle.std.specs.Prelude.{◌≡◌, ◌==◌, ℕ, Bool, false, List, Option, Some, None}
use Rattle.spk_nums.specs.Capability.{Capability}
use Rattle.spk_nums.specs.declared.calls.Call.{Call}
use Rattle.spk_nums.specs.declared.replies.Reply.TheVariants.{Ok}
use Rattle.spk_nums.specs.declared.replies.Value.TheVariants.{Nothing}
use Rattle.straight_looks.specs.step_starts.specs as low
use low.act_states.specs.declared.invocations.Invoking.{Invoking}
use low.act_states.specs.declared.invocations.InvokingAt.{InvokingAt}
use low.act_states.specs.declared.invocations.Returning.{Returning}
use low.act_states.specs.declared.invocations.ReturningAt.{ReturningAt}
use low.act_states.specs.declared.own.Own.{Own}
use low.act_states.specs.declared.work.Act.{Act}
use low.act_states.specs.declared.work.Tail.{Tail}
use low.act_states.specs.declared.work.Work.TheVariants.{Act as makes}
use low.frame_words.specs.declared.live_word.LiveWord.{LiveWord}
use low.stage_pins.specs.declared.held.Acquired.{Acquired}
use low.call_stages.specs.View.{Core}
use low.call_stages.specs.Cores.{own_decided}
use low.call_stages.specs.declared.stages.Stage.TheVariants.{Decided, Undecided}
use Rattle.straight_acts.specs.Acting.{counts}

-- the entering through a gate, and the leaving of a core's component, before their first steps
abbrev pub entering : Own → Capability → Invoking
entering own k = record {
  comp = k.frame;
  epoch = k.arg;
  thread = own.thread;
  depth = own.depth;
  core = own.core;
  frames = own.layout.frames;
  at = InvokingAt.LoadTable;
}

abbrev pub leaving : Own → Returning
leaving own = record {
  top = own.comp;
  thread = own.thread;
  depth = own.depth;
  core = own.core;
  frames = own.layout.frames;
  at = ReturningAt.LoadBelow;
}

-- whether the word of a liveness number shows that it is live in this epoch
abbrev pub is_live_at : ℕ → Option LiveWord → Bool
is_live_at epoch (Some (LiveWord.Live now frame)) = now == epoch
is_live_at epoch _ = false

-- a core whose call makes this act, and has acquired this count
pub record IsActing (own : Own) (act : Act) (x : Acquired) (c : Core) : Type 0 where
  pub call : Call
  pub steps : ℕ
  pub found : List Capability
  pub is : c ≡ counts own call steps (Undecided (makes act)) found x

-- a core whose call is carried out, has drawn this stamp or none, has this to store, and then one count to commit
pub record IsStoring (own : Own) (tail : Tail) (drawn : Option ℕ) (x : Acquired) (c : Core) : Type 0 where
  pub call : Call
  pub steps : ℕ
  pub found : List Capability
  pub is : c ≡ counts (own_decided own (Ok Nothing)) call steps (Decided (Ok Nothing) drawn tail) found x
