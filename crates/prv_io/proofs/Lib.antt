pub mod Limit
pub mod Taken
