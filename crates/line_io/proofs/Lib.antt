pub mod Appending
pub mod LineLemmas
pub mod Reader
pub mod Pieces
pub mod Calls
pub mod Given
