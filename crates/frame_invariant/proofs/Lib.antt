-- Typing.
pub mod Typings
-- Making an object.
pub mod MakeCalls
pub mod Marking
pub mod Makes
pub mod NewObjects
pub mod MadeObjects
pub mod Beyond
