pub mod Dependences
pub mod Tables
