pub mod Judgements
pub mod Forms
pub mod Verbs
pub mod Spelled
mod OneLine
