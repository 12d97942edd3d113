pub mod Again
pub mod Back
pub mod Equal
pub mod Excludes
pub mod Fitting
pub mod Pushed
pub mod Steps
pub mod Unique
