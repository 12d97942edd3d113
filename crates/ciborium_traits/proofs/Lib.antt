pub mod Characters
pub mod Items
pub mod Loops
pub mod Opened
pub mod Single
pub mod Written
