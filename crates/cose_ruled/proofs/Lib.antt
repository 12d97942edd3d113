pub mod Asks
pub mod Decided
pub mod Keeping
pub mod Placed
pub mod Runs
pub mod Shared
pub mod Tokens
