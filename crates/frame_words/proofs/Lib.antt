pub mod CompLemmas
pub mod CoreLemmas
pub mod CountLemmas
pub mod FlushLemmas
pub mod FrameLemmas
pub mod LiveLemmas
pub mod ResidueLemmas
