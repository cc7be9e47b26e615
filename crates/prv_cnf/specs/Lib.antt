pub mod Literals
pub mod Formulas
pub mod Models
pub mod Places
