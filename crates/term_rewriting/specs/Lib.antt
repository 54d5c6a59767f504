pub mod Nodes
pub mod Rewriting
