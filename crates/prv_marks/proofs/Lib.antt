pub mod Orders
pub mod MarkLemmas
pub mod SkeletonLemmas
pub mod PairLemmas
