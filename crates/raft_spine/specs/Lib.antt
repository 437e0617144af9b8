pub mod Quorum
pub mod Logs
pub mod Start
pub mod Spine
pub mod Moves
pub mod Decided
pub mod Laws
pub mod Runs
