pub mod Blocks
pub mod Grammar
pub mod Lists
pub mod Nesting
pub mod SaidExpr
pub mod SaidStatement
