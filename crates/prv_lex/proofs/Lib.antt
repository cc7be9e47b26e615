pub mod NumberLemmas
pub mod CommentLemmas
pub mod ClassLemmas
pub mod RunLemmas
pub mod EachSymbol
pub mod FrontLemmas
pub mod Scanning
pub mod ScanLemmas
pub mod ReadingLemmas
pub mod TableLemmas
pub mod SpellingLemmas
pub mod SpacingLemmas
pub mod WrongLemmas
pub mod MadeLemmas
pub mod FormLemmas
pub mod FileLemmas
pub mod StandLemmas
mod Rows
