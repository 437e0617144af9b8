pub mod Next
pub mod Drafts
pub mod Parts
