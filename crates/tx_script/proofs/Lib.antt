pub mod Pairs
pub mod Places
pub mod Refusals
pub mod Seeing
pub mod Stopping
