pub mod Bodies
pub mod Calls
pub mod Expressions
pub mod Modes
pub mod Places
pub mod Signatures
pub mod Statements
pub mod working
