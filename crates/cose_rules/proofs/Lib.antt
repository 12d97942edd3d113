pub mod Entries
pub mod Labelled
pub mod Seen
pub mod Tokens
pub mod Wrapped
