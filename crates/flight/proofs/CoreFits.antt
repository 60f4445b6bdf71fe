-- A core keeps in its ranges: at the start, where it begins a call, and after each step.
use Rattle.work_invariant.specs.step_ways.proofs.{◌≡◌, ℕ, ◌<◌, ◌≤◌, ◌*◌, ◌+◌, Option, Some, None, arith, refl, sym, ap, subst, IsSome}
use Rattle.work_invariant.specs.step_ways.proofs.{Setting, IsSetting, InLimits, Call, calls_counted, Own, Reply, ActiveCall, Core}
use Rattle.work_invariant.specs.step_ways.proofs.{Took, GoesOn, Decides, Returns, Changes, took, fresh, core_after, absorbed_in, absorbed}
use Rattle.work_invariant.specs.step_ways.proofs.{started, IsCore, steps_left}
use Rattle.call_fits.specs.call_stages.specs.{told, call_after, begun, IsOwn, left_of, left_for}
use Rattle.call_fits.specs.call_stages.specs.act_states.specs.declared.own.OwnChange.{OwnChange}
use Rattle.call_fits.specs.call_stages.specs.act_states.specs.declared.own.OwnChange.TheVariants.{Ticks}
use Rattle.call_fits.specs.act_fits.proofs.LandsFit.{TookFits}
use Rattle.call_fits.proofs.{Fitting.took_fits, CoreFitting.goes_on, CoreFitting.decides_on, CoreFitting.changes_on}
use Rattle.call_fits.proofs.Begun as begun

pub started_fits : (c : ℕ) (setting : Setting) → IsSetting setting → c < setting.cores → IsCore (started c setting)
started_fits c setting h below =
    let least : 4 + 2 * setting.cores ≤ setting.frames = h.least_frames in
    record {
      own = record {
        shape = record { some_core = h.some_core; most_cores = h.most_cores; least_frames = least; most_frames = h.most_frames };
        core = below;
        thread = omega arith;
        some_depth = omega arith;
        most_depth = omega arith;
        comp = omega arith;
        table = omega arith;
        pages = omega arith;
        tcap = omega arith;
        most_calls = h.most_calls;
        most_epochs = h.most_epochs;
        made = omega arith;
      };
      active = tt;
    }

pub begun_fits : (core : Core) (call : Call) → IsCore core → InLimits call → IsCore (begun core call)
begun_fits core call h limits =
    begun.begun_fits core.own call (fresh call).found (fresh call).counts h.own refl refl limits

-- A core after its step, and how many steps are then to come.
record GoesFurther (own : Own) (a : ActiveCall) (after : Core) : Type 0 where
  fits : IsCore after
  fewer : steps_left after < left_of own.layout.cores a

left_fits : (own : Own) (x : ℕ) → IsOwn own → IsOwn (record own { exit = x })
left_fits own x h = record {
  shape = h.shape;
  core = h.core;
  thread = h.thread;
  some_depth = h.some_depth;
  most_depth = h.most_depth;
  comp = h.comp;
  table = h.table;
  pages = h.pages;
  tcap =
      h.tcap;
  most_calls = h.most_calls;
  most_epochs = h.most_epochs;
  made = h.made;
}

further_changed : (own : Own) (a : ActiveCall) (r : Reply) (change : OwnChange) (new : ActiveCall)
    → IsCore (core_after own (Changes r change new)) → left_of own.layout.cores new < left_of own.layout.cores a
    → GoesFurther own a (core_after own (Changes r change new))
further_changed own a r (Ticks charged owed) new fits fewer = record { fits = fits; fewer = fewer }
further_changed own a r _ new fits fewer = record { fits = fits; fewer = fewer }

further : (own : Own) (a : ActiveCall) (found : ℕ) (k : Took) → took own a found ≡ k → IsCore (record { own = own; active = Some a })
    → GoesFurther own a (core_after own k)
further own a found (GoesOn new) is h =
    let on = goes_on own (Some a) a new found h refl (sym (ap told is)) (sym (ap (call_after a) is)) in record
    { fits = on.0; fewer = on.1 }
further own a found (Decides r new) is h =
    let on = decides_on own (Some a) a new r (calls_counted r) found h refl (sym (ap told is)) (sym (ap (call_after a) is)) refl in record
    { fits = on.0; fewer = on.1 }
further own a found (Returns r stamp) is h =
    let some : 0 < left_of own.layout.cores a = subst (TookFits own (left_of own.layout.cores a) a) is
    (took_fits own a found h.own h.active) in
    record { fits = record { own = left_fits own stamp h.own; active = tt }; fewer = some }
further own a found (Changes r change new) is h =
    let on = changes_on own (Some a) a new r change (calls_counted r) found h refl (sym (ap told is)) (sym (ap (call_after a) is)) refl in
    further_changed own a r change new on.0 on.1

pub after_fits : (own : Own) (a : ActiveCall) (found : ℕ) → IsCore (record { own = own; active = Some a })
    → IsCore (core_after own (took own a found))
after_fits own a found h = (further own a found (took own a found) refl h).fits

fewer_in : (own : Own) (o : Option ActiveCall) (found : ℕ) → IsCore (record { own = own; active = o }) → IsSome o
    → steps_left (absorbed_in own o found) < left_for own.layout.cores o
fewer_in own None found h some = absurd (cc)
fewer_in own (Some a) found h some = (further own a found (took own a found) refl h).fewer

-- each step of a call leaves fewer to come
pub absorbed_fewer : (core : Core) (found : ℕ) → IsCore core → IsSome core.active → steps_left (absorbed core found) < steps_left core
absorbed_fewer core found h some = fewer_in core.own core.active found h some
