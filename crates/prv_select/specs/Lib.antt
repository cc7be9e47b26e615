pub mod Choices
pub mod MarkSets
pub mod Places
pub mod BackwardWalks
