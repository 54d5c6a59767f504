pub mod Ascii
pub mod Longest
pub mod Spelling
