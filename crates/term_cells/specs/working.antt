pub mod Arity
pub mod Counting
pub mod Listed
pub mod Marks
pub mod Pieces
pub mod Reading
