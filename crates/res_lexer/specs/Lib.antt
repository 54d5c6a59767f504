pub mod Pieces
pub mod Reserved
pub mod Spaced
pub mod Tokens
pub mod working
