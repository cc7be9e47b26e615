pub mod Operators
pub mod Texts
pub mod Skeletons
pub mod Limits
pub mod Rules
pub mod Refusals
pub mod Combinators
