-- Facts about the orders that the laws of the comparisons in src/ cite. They are proved here:
-- nothing in them has to be believed.
pub mod CanonicalHash
pub mod Derived
pub mod Orders
pub mod Heads
pub mod TextTotal
pub mod Ties
pub mod TreeTotal
