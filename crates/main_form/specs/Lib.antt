pub mod Formed
pub mod Names
pub mod Places
pub mod Shape
pub mod Values
