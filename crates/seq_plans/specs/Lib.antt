pub mod Reaches
pub mod Walks
pub mod Refusals
pub mod OwnCauses
pub mod ReplyNumbers
pub mod Carrying
pub mod Resolving
-- The names that are used most outside of this library.
pub use Rattle.seq_plans.specs.{Carrying.change_in, OwnCauses.judged_rule, OwnCauses.causes_in, OwnCauses.retype_beyond, OwnCauses.AreFitCauses}
pub use Rattle.seq_plans.specs.{Reaches.named_of, Refusals.Decides, Refusals.Iff, Resolving.resolved, Walks.left_of, Walks.causes_of}
pub use Rattle.seq_plans.specs.{Walks.names_in, Walks.rest_by, Walks.nothing}
