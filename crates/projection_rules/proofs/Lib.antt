pub mod Taken
pub mod Ordered
pub mod Whole
