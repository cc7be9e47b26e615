pub mod Inputs
pub mod Subterms
pub mod Encodings
pub mod Formulas
pub mod Orders
pub mod Encoders
