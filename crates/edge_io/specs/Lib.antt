pub mod Faults
pub mod Held
pub mod Files
pub mod Memory
pub mod Numbers
pub mod working
