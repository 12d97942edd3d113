pub mod Arguments
pub mod Taking
pub mod Reading
pub mod Untagging
pub mod Sifting
