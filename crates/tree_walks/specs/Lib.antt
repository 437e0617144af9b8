pub mod Under
pub mod Notes
pub mod Walks
pub mod Turns
