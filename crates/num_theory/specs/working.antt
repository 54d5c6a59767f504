pub mod Gathering
pub mod Making
