pub mod Overlay
pub mod Applying
pub mod Counting
pub mod Hatching
pub mod Marking
pub mod Seeing
pub mod Shallow
pub mod Keeping
