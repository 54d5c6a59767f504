pub mod Breaches
pub mod Concepts
pub mod Declarations
pub mod Headings
pub mod Names
pub mod Origins
pub mod working
