pub mod BracketSpelling
pub mod SourceSpelling
pub mod ListLaws
mod Wholes
pub mod ProjectionSpelling
pub mod RowSpelling
