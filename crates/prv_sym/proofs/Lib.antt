pub mod SymbolLaws
pub mod Naming
pub mod Slots
pub mod Composing
pub mod Walking
pub mod Along
