pub mod Terms
pub mod Walk
pub mod Linking
pub mod Soundness
pub mod Events
