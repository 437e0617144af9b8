pub mod Sorted
pub mod Walking
pub mod Laying
