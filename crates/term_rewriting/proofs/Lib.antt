pub mod Opened
pub mod Listed
pub mod Truths
