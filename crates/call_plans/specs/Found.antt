-- What the next look-up says.
use Rattle.call_plans.specs.declared.plans.Next.TheVariants.{Name, Free, Held, Own, Nothing}
use Rattle.call_plans.specs.After.{Next as next, NextName, NextFree, NextHeld, NextOwn, NextNothing}
use Rattle.{kernel_invariant.specs.kernel_rules.specs.List, kernel_invariant.specs.kernel_rules.specs.Named}
use Rattle.{call_plans.specs.declared.plans.Next.Next, call_plans.specs.GoesBy.want_of, call_plans.specs.GoesBy.place_of_spot}

-- what the next look-up says, where the names have led to these
abbrev pub said : List Named → Next → next
said caps (Name name) = NextName name.number (want_of caps name)
said caps (Free spot) = NextFree (place_of_spot caps spot)
said caps (Held spot) = NextHeld (place_of_spot caps spot)
said caps (Own v) = NextOwn v
said caps Nothing = NextNothing
