pub mod Elimination
pub mod Laws
pub mod Refusal
pub mod working
