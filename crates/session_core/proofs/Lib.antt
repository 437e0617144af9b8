pub mod Executing
pub mod Telling
pub mod Taking
pub mod Amid
