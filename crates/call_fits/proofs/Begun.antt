-- A core that begins a call.
use Rattle.act_fits.specs.act_states.proofs.{◌≡◌, List, [], Some, None, refl, arith, Acquired, InLimits, Capability, Call, found}
use Rattle.{act_fits.specs.call_stages.specs.IsOwn, act_fits.specs.call_stages.specs.IsCore, std.proofs.lemmas.List.Elements.All-nil}
use Rattle.{act_fits.specs.stage_pins.specs.Held.AcquiredFits, act_fits.specs.call_plans.proofs.StepsOfPlans.bound_is}
use Rattle.{act_fits.specs.act_states.specs.declared.own.Own.Own, act_fits.specs.call_stages.specs.declared.stages.Stage.TheVariants.Enter}

pub begun_fits : (own : Own) (call : Call) (found : List Capability) (counts : List Acquired) → IsOwn own → found ≡ []
    → counts ≡ [] → InLimits call
    → IsCore (record {
      own = own;
      active = Some (record {
        steps = 0;
        stage = Enter;
        found = found;
        read = None;
        counts = counts;
        call = call;
      });
    })
begun_fits own call found counts h none no_counts limits = rw (none, no_counts) (record {
  own = h;
  active = record {
    limits = limits;
    found = tt;
    first = refl;
    stage = tt;
    acquired = All-nil (AcquiredFits own.layout);
    counts = refl;
    room = tt;
    steps = let bound = bound_is call own.layout.cores in omega arith;
  };
})
