pub mod Lines
pub mod working
