pub mod Takes
pub mod Readable
pub mod TakenItem
pub mod Deep
pub mod ReadItem
pub mod Untagged
pub mod Sieve
pub mod ReadThrough
