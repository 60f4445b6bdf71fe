-- What the crates above name through this one.
pub use Rattle.script_printer.specs.script_tokens
pub use Rattle.script_printer.specs.line_reader
pub use Rattle.script_printer.specs.call_reader
pub use Rattle.script_printer.specs.script_reader
pub use Rattle.step_views.specs.kernel_history
pub use Rattle.step_views
pub use Rattle.script_printer
-- Its own.
pub mod Steps
pub mod Traces
pub mod Views
-- The names that are used most outside of this library.
pub use Rattle.trace_lines.specs.{Steps.step_text, Steps.event_lines, Traces.Told, Traces.trace_text, Traces.step_told, Traces.told}
pub use Rattle.trace_lines.specs.{Traces.line_end, Views.made_lines, Views.view_text}
