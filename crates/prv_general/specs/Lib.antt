pub mod Slices
pub mod Conditions
pub mod Answers
