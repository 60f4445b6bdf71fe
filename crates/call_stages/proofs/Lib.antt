pub mod Decisions
pub mod Ends
pub mod Beginning
pub mod Answering
pub mod ShareDecisions
