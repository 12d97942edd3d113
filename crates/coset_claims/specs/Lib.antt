pub mod Builder
pub mod Claims
pub mod Fields
pub mod Seconds
pub mod Steps
pub mod View
pub mod Written
pub mod Wrong
