pub mod Numbered
pub mod Paired
pub mod Repeated
