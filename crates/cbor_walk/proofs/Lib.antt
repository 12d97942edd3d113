pub mod Going
pub mod Steps
pub mod Deep
pub mod Begins
