pub mod Lists
pub mod Misfits
pub mod Variables
