pub mod Betweens
pub mod Descending
pub mod Sweeping
pub mod Ways
pub mod Touching
pub mod Raising
pub mod Dropping
