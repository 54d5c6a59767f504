pub mod Going
pub mod Telling
pub mod Expressions
pub mod Statements
pub mod Simulated
pub mod Patch
