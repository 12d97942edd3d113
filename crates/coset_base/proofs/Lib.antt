pub mod Events
pub mod Left
pub mod OneStructure
pub mod Received
pub mod Signed
pub mod Writable
