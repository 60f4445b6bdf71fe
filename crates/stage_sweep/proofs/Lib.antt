pub mod CountLemmas
pub mod EmptyLemmas
pub mod SweepLemmas
