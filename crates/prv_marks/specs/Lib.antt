pub mod Marks
pub mod Skeletons
pub mod Pairs
