pub mod Deciding
pub mod Judging
pub mod Making
pub mod Points
pub mod Remaining
