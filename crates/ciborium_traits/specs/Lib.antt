pub mod Back
pub mod Events
pub mod Facts
pub mod Lists
pub mod Ranges
pub mod Reading
pub mod Texts
pub mod Wide
