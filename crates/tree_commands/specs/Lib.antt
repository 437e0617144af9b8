pub mod Refusals
pub mod Replies
pub mod Scans
pub mod Listing
pub mod Starts
