-- What comes next of a look.
use Rattle.std.proofs.Common.{◌≡◌, ℕ, nat_le, true, [], ◌∷◌, None, refl}
use Rattle.spk_nums.specs.Capability.{Capability}
use Rattle.spk_nums.specs.declared.calls.Call.TheVariants.{Look}
use Rattle.spk_nums.specs.declared.replies.Reply.TheVariants.{Ok}
use Rattle.spk_nums.specs.declared.replies.Value.TheVariants.{Cap}
use Rattle.step_starts.specs.act_states.specs.declared.own.Own.{Own}
use Rattle.step_starts.specs.act_states.specs.declared.work.Tail.TheVariants.{Nothing}
use Rattle.step_starts.specs.call_stages.specs.Cores.{own_decided}
use Rattle.step_starts.specs.call_stages.specs.declared.stages.Stage.TheVariants.{Decided}
use Rattle.step_starts.specs.stage_look.specs.declared.look.Look.TheVariants.{AtRoot}
use Rattle.straight_looks.specs.Standing.{looks, onward, stands}

pub look_asked : (own : Own) (a : ℕ) → nat_le a 4095 ≡ true
    → onward own (Look a) 2 [] ≡ looks own (Look a) 3 (AtRoot own.table a) []
unfolding onward
look_asked own a small = rw small refl

pub look_named : (own : Own) (a : ℕ) (k : Capability)
    → onward own (Look a) 4 (k ∷ []) ≡ stands (own_decided own (Ok (Cap k))) (Look a) 5 (Decided (Ok (Cap k)) None Nothing) (k ∷ [])
unfolding onward
look_named own a k = refl
