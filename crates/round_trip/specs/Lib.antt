pub mod WellFormed
pub mod Unplaced
pub mod MinusZero
pub mod ReadsBack
