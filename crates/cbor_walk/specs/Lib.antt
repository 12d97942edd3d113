pub mod Grammar
pub mod Walking
