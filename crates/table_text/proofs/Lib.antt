pub mod Grammar
mod Turns
