pub mod Arguments
pub mod Folder
pub mod Lines
pub mod Putting
pub mod Streams
