pub mod Builders
pub mod Contexts
pub mod Fields
pub mod Steps
pub mod View
pub mod Written
pub mod Wrong
