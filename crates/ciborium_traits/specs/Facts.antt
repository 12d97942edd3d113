-- Facts about what is written and taken that the laws in src/ cite. They are proved here: nothing
-- in them has to be believed.
pub mod Keys
pub mod Lists
pub mod Maps
pub mod Numbers
pub mod Once
pub mod Texts
pub mod Tuples
