pub mod Actions
pub mod Marks
pub mod Built
