-- What the crates above name through this one.
pub use Rattle.plain_kernel.specs.kernel_rules
pub use Rattle.sched_rules
pub use Rattle.plain_kernel.specs.seq_state
pub use Rattle.plain_kernel
pub use Rattle.sched_laws
-- Its own.
pub mod Machines
pub mod Courses
-- The names that are used most outside of this library.
pub use Rattle.fixed_prio.specs.{Courses.progress, Machines.Beside, Machines.MakesBoth}
unfoldable pub use Rattle.fixed_prio.specs.Machines.{after_calls}
