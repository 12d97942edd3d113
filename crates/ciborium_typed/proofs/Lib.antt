pub mod Built
pub mod Foldings
pub mod Tagged
