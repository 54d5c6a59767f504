pub mod Ending
pub mod Splitting
pub mod Laws
pub mod working
