pub mod Following
pub mod Answering
