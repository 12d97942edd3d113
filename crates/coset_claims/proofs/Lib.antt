pub mod Again
pub mod Equal
pub mod Excludes
pub mod Fitting
pub mod Pushed
pub mod Scaled
pub mod Sound
pub mod Steps
