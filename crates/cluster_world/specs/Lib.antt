pub mod World
pub mod Node
pub mod Events
pub mod Facts
pub mod Runs
