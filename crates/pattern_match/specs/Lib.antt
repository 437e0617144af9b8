pub mod Masks
pub mod Steps
