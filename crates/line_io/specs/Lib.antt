pub mod Lines
pub mod Streams
pub mod Shown
pub mod Reading
pub mod Ahead
pub mod Pieces
pub mod Memory
pub mod Progress
