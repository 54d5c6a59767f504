pub mod TermValues
pub mod Membership
pub mod Points
pub mod Expressions
pub mod Guards
pub mod Statements
pub mod Sound
pub mod Events
