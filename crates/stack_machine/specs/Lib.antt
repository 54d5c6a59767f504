pub mod Machine
pub mod Lines
pub mod Runs
pub mod Code
pub mod Simulation
pub mod Running
pub mod Refusal
