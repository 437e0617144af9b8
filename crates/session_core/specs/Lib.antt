pub mod Statuses
pub mod Told
pub mod Session
pub mod Turns
