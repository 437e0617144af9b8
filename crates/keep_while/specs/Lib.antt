pub mod Costs
pub mod Gathering
