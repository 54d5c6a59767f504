pub mod Pieces
pub mod Expressions
pub mod Statements
pub mod Models
pub mod Components
pub mod working
