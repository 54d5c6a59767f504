pub mod Declared
pub mod One
