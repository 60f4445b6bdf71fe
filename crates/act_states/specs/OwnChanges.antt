-- What a decision changes of what its core has of its own, beside the calls that it has made.
use Rattle.std.specs.Prelude.{◌+◌, ◌-◌, ◌^◌}
use Rattle.call_plans.specs.kernel_invariant.specs.kernel_rules.specs.{ℕ, min, [], caching}
use Rattle.act_states.specs.declared.own.OwnChange.TheVariants.{Ticks, GivesBack, Empties, Works, Switches, Caches}
use Rattle.{act_states.specs.declared.own.Own.Own, act_states.specs.declared.own.OwnChange.OwnChange}

-- so many ticks more are spent, or given back; ticks past their field never come, and stay at the field's end
abbrev pub spent_more : ℕ → ℕ → ℕ
spent_more spent charged = min (spent + charged) (2 ^ 64 - 1)

abbrev pub own_changed : Own → OwnChange → Own
own_changed own (Ticks charged owed) = record own { spent = spent_more own.spent charged; owed = owed }
own_changed own (GivesBack ticks) = record own { back = spent_more own.back ticks }
own_changed own Empties = record own { cached = [] }
own_changed own (Works comp table pages depth) = record own { comp = comp; table = table; pages = pages; depth = depth }
own_changed own (Switches thread depth comp table pages tcap) =
    record own { thread = thread; depth = depth; comp = comp; table = table; pages = pages; tcap = tcap }
own_changed own (Caches item) = record own { cached = caching own.cached item }
