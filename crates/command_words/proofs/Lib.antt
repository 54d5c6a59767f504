pub mod Digits
pub mod Gathering
