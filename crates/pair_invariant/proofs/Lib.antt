-- What the words and the rule of such a call say.
pub mod ListsRead
pub mod ShareCalls
pub mod ShareSteps
pub mod Marking
-- Its loads, and the mark of the first head.
pub mod HeadsA
pub mod HeadsB
pub mod MarksA
pub mod ListsKnown
-- Its decision.
pub mod Moved
-- Where it begins, and all its steps.
pub mod ShareStarts
-- Ticks are given back to one.
pub mod RefillCalls
pub mod RefillLists
pub mod RefillLoads
pub mod RefillEnds
pub mod RefillWins
pub mod RefillStarts
-- The names that are used most outside of this library.
pub use Rattle.pair_invariant.proofs.{ListsKnown.AreRead, ListsKnown.all_gone, MarksA.spares_one, ShareCalls.causes_of, ShareCalls.change_by}
pub use Rattle.pair_invariant.proofs.{ShareSteps.mark_is}
