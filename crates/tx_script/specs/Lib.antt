pub mod Answers
pub mod Halts
