pub mod Found
pub mod Halves
