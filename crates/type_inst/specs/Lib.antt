pub mod Assertions
pub mod Descriptors
