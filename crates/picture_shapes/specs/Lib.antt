pub mod Frame
pub mod Bars
pub mod Arrows
pub mod Lines
