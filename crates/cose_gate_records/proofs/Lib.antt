pub mod Asked
pub mod Frames
pub mod Hashed
pub mod Keys
pub mod Order
pub mod Put
pub mod Runs
pub mod Told
