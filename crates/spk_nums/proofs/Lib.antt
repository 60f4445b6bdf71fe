pub mod Cells
pub mod Choices
pub mod CoreSets
pub mod KeptRights
pub mod MarkLemmas
pub mod OneSpelling
