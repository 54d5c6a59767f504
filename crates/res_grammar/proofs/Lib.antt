pub mod Predictive
pub mod Classed
pub mod Fairness
pub mod Walks
pub mod Refusals
pub mod OneAnswer
