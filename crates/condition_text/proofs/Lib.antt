pub mod Parts
pub mod Stages
pub mod Loops
pub mod Layers
pub mod Said
