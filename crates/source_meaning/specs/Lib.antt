pub mod Meaning
pub mod Formed
pub mod Trace
pub mod Running
