-- Facts about values with a tag around them that the laws in src/ cite. They are proved here:
-- nothing in them has to be believed.
pub mod Tags
