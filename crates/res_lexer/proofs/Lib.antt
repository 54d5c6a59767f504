pub mod Choices
pub mod Digits
pub mod Lists
pub mod Lying
pub mod Readings
pub mod Spacing
pub mod Symbols
