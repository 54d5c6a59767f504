pub mod Joined
pub mod Remaining
