pub mod Memory
pub mod Vaults
