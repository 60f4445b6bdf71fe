-- What such a call knows of its rule, and how it is refused.
pub mod OwnedFrames
-- The scans.
pub mod FreeEntries
-- The looks at the object.
pub mod ObjectLoads
pub mod Objects
pub mod Emptied
-- The draw, the stores after it, and all steps.
pub mod Untyped
pub mod Releases
pub mod UntypeSteps
