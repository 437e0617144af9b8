pub mod Forms
pub mod Joining
pub mod Leaves
pub mod Spelling
