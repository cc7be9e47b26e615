pub mod Folding
pub mod Tables
pub mod Nodes
pub mod Folds
pub mod Steps
