pub mod Evaluating
pub mod Walking
pub mod Sources
