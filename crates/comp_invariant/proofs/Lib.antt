-- Making a component.
pub mod CompCalls
pub mod CompMarks
pub mod CompNumbers
pub mod CompStores
pub mod MadeComps
pub mod UnusedNumbers
pub mod LaterEvents
