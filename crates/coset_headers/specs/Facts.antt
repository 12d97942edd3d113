-- Facts about the definitions here that impls and other crates' proofs cite. They are proved here:
-- nothing in them has to be believed.
pub mod Decided
