pub mod Clauses
pub mod Components
pub mod Expressions
pub mod Laws
pub mod Names
pub mod Types
pub mod working
