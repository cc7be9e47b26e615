pub mod WordLemmas
pub mod WordLaws
pub mod ProgramLemmas
pub mod TermLemmas
pub mod NumberLaws
pub mod TextOrder
pub mod VerdictLaws
pub mod OrderLemmas
