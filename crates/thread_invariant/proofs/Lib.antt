-- What words say of threads and of components.
pub mod Heights
pub mod CompWords
pub mod OwnStack
pub mod EntryMarks
pub mod OwnWords
-- The state with another stack.
pub mod Stacked
pub mod Restacks
-- Entering a component.
pub mod InvokeCalls
pub mod InvokeStarts
pub mod Invokes
pub mod Entered
-- Leaving one.
pub mod Returns
pub mod Left
-- The stores of a push and of a pop.
pub mod Stores
pub mod Stacks
-- The names that are used most outside of this library.
pub use Rattle.thread_invariant.proofs.{EntryMarks.counts_apart, EntryMarks.holder_below, OwnStack.own_thread}
