pub mod Equal
pub mod Fit
pub mod Kept
pub mod Unique
pub mod Writable
