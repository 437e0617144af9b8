pub mod Looking
pub mod Masking
pub mod Scanning
pub mod Roots
pub mod Picking
