pub mod Within
pub mod Every
