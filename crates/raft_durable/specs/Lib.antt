pub mod Bytes
pub mod Laws
pub mod Steps
pub mod Stores
