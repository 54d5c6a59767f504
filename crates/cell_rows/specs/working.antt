pub mod Atoms
pub mod Columns
pub mod Facts
pub mod Finding
pub mod FormulaRows
pub mod RowsIn
pub mod Small
pub mod Tame
