pub mod Sayings
pub mod Scopes
pub mod ScopeStacks
pub mod Versions
