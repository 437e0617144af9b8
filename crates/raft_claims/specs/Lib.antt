pub mod Claims
pub mod Tied
pub mod Events
pub mod Laws
