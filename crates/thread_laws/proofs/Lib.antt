pub mod IdleThreads
pub mod Steps
