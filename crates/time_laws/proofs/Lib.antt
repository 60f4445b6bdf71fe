-- Budgets, and what heads and lists show.
pub mod Time
-- Heads that a core has marked, in a call that is not decided and in one that is.
pub mod MarkedHeads
pub mod ShareTails
pub mod OwedTails
pub mod OwedHeads
