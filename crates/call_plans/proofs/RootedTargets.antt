-- The target of each call is in a table to whose root one of its names is to lead.
use Rattle.kernel_invariant.specs as low
use low.kernel_rules.specs.{Bool, true, false, ◌||◌, IsTrue, Retype, only, Kind, Make}
use Rattle.call_plans.specs.declared.plans.Wanted.TheVariants.{Only, Root}
use Rattle.call_plans.specs.Rooted.{WantsRoot, AreRooted}
use low.{spk_nums.specs.declared.kinds.FrameKind.TheVariants.Untyped, spk_nums.specs.declared.calls.Call.TheVariants.Make as make_call}

or_left : (a b : Bool) → IsTrue a → IsTrue (a || b)
or_left true b is = is
or_left false b is = cc

or_right : (a b : Bool) → IsTrue b → IsTrue (a || b)
or_right true b is = cc
or_right false b is = is

table_root : WantsRoot (Only Kind.Table)
table_root caps k is = or_left (only Kind.Table k) (only Kind.Pages k) is

pages_root : WantsRoot (Only Kind.Pages)
pages_root caps k is = or_right (only Kind.Table k) (only Kind.Pages k) is

any_root : WantsRoot Root
any_root caps k is = is

pub rooted : AreRooted
rooted (Retype r f Untyped) = tt
rooted (make_call (Make.Thread comp) r f t b) = table_root
rooted (make_call (Make.Comp table pages live) r f t b) = table_root
rooted _ = search (table_root, pages_root, any_root)
