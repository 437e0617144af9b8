pub mod Scripts
pub mod World
