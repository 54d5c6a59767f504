pub mod Arguments
pub mod Bounds
pub mod Clauses
pub mod Formals
pub mod Scopes
