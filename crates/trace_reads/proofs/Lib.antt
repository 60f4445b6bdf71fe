pub mod Printed
pub mod NotedLines
pub mod Told
pub mod MarkLines
pub mod HeadRows
pub mod Reading
pub mod Verdicts
pub mod Laws
