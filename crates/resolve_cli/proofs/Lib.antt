pub mod Growing
pub mod Inputs
pub mod Ran
pub mod Right
pub mod Ended
pub mod OneAnswer
pub mod Stages
