-- What the crates above name through this one.
pub use Rattle.kernel_invariant
-- Its own.
pub mod NameCells
pub mod CapCells
pub mod Plans
pub mod PlanOf
pub mod GoesBy
pub mod After
pub mod Found
pub mod Bounds
pub mod Rooted
pub mod Laws
-- The names that are used most outside of this library.
pub use Rattle.call_plans.specs.{After.Leads, After.LeadsIn, After.next_of, After.NextFree, After.names_after, After.rule_after, After.NextName}
pub use Rattle.call_plans.specs.{After.NextHeld, After.NextNothing, After.NextOwn, After.with_found, After.next_in, After.NextMay}
pub use Rattle.call_plans.specs.{After.next_target, Bounds.act_steps, Bounds.look_steps, GoesBy.own_pages, GoesBy.want_of, GoesBy.place_of_spot}
pub use Rattle.call_plans.specs.{GoesBy.earlier, GoesBy.OwnPages, GoesBy.wants, GoesBy.OnlyDoes, GoesBy.GoesOn, PlanOf.plan_for, PlanOf.of_kind}
pub use Rattle.call_plans.specs.{PlanOf.any_cap, PlanOf.plan_of_make, PlanOf.plan_of_retype, Plans.at_place, Plans.pushed, Plans.head}
pub use Rattle.call_plans.specs.{Rooted.WantsRoot}
