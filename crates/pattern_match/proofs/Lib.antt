pub mod Taking
pub mod Stepping
pub mod Ways
