pub mod Explorations
pub mod Turns
