pub mod Symbols
pub mod Judgements
pub mod Named
pub mod Calls
pub mod Walks
