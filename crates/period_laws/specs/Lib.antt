pub mod Periods
pub mod Arrivals
pub mod Budgets
