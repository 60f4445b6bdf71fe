pub mod Links
pub mod LookLemmas
