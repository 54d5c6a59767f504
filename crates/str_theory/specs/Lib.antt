pub mod Forms
pub mod Chains
pub mod Rules
pub mod Positions
pub mod Laws
pub mod Steps
