-- Facts about the definitions here that other crates' proofs cite. They are proved here: nothing in
-- them has to be believed.
pub mod Back
pub mod Entries
pub mod Equal
pub mod Meant
pub mod Orders
pub mod Pushed
pub mod Sound
pub mod Walks
pub mod Wrong
