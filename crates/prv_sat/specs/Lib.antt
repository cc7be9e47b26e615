pub mod Marking
pub mod Analyses
pub mod Conclusions
pub mod States
pub mod Findings
pub mod Searches
