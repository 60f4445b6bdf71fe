pub mod Ticks
pub mod TickSteps
pub mod TickCalls
pub mod Budgets
