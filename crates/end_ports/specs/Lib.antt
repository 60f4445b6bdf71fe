-- What a caller names through this crate: what stands in a port's trace and in its history at the endpoints.
pub use Rattle.core_machine
pub use Rattle.async_ends
pub use Rattle.ends_runners
-- Its own.
pub mod Ports
-- The names that are used most outside of this library.
pub use Rattle.end_ports.specs.Ports.{EndPortValue, EndSeatsValue}
