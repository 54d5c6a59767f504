pub mod Standing
pub mod Placed
pub mod Laws
pub mod Growing
pub mod KindShown
pub mod Pending
pub mod working
