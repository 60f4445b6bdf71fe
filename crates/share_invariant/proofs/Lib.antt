-- Its decision.
pub mod Compared
pub mod Turned
pub mod Compares
pub mod Delegates
pub mod Agains
-- What it has then to store.
pub mod HeadStores
pub mod Stores
pub mod HeadBStores
pub mod ListStores
-- Where it begins, and all its steps.
pub mod Shares
