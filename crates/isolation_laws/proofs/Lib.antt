-- What a step does to the state: one decision, and at most its core's word of being inside.
pub mod Steps
pub mod StepAuthority
pub mod StepWorlds
-- Stretches of steps.
pub mod StretchWorlds
-- Where capabilities come from.
pub mod Origins
-- What follows from all of them.
pub mod Uses
