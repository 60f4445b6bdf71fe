-- What the crates above name through this one.
pub use Rattle.ends_reader
pub use Rattle.history_options.specs.check_run
pub use Rattle.line_forms
pub use Rattle.fault_texts
pub use Rattle.history_options
-- Its own.
pub mod Explained
