pub mod Proving
pub mod working
