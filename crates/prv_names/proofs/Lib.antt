pub mod KeyLemmas
pub mod NestingLemmas
pub mod VariableLemmas
pub mod CountLemmas
