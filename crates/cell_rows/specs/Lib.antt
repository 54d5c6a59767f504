pub mod Forms
pub mod RowsStand
pub mod Sequents
pub mod working
