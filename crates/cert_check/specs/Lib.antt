pub mod Laws
pub mod Legality
pub mod Need
pub mod working
