pub mod Folds
pub mod Putting
pub mod Counting
pub mod Sameness
pub mod Evaluations
pub mod Closedness
pub mod SameTerms
pub mod Shaped
pub mod Meets
pub mod Heads
pub mod Walks
pub mod SortsToKinds
pub mod Clashes
mod WellSorted
mod WellValued
mod Mentioned
pub mod Fillings
mod FilledValues
mod FilledKinds
