-- What the crates above name through this one.
pub use Rattle.told_run
pub use Rattle.page_drawing
-- Its own.
pub mod Drawn
pub mod GivenDrawing
