pub mod Counter
pub mod Counting
pub mod Taker
pub mod Taking
-- The names that are used most outside of this library.
pub use Rattle.turn_tests.specs.{Counter.counter_steps, Counter.steps_left, Counting.GoesOn}
