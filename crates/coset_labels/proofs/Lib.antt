pub mod Arrays
pub mod Errors
pub mod ErrorsEqual
pub mod Items
pub mod Loops
pub mod Marks
pub mod Orders
pub mod Table
