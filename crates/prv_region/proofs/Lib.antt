pub mod ValueLemmas
pub mod NumberLemmas
pub mod CopyLemmas
pub mod PairLemmas
