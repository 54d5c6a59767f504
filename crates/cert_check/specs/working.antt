pub mod Cases
pub mod Children
pub mod Path
pub mod Room
pub mod Walking
