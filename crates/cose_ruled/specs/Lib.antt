pub mod Asking
pub mod Blocks
pub mod Judging
pub mod Running
pub mod Told
pub mod Tokens
