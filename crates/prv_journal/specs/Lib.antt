pub mod Ends
pub mod Errors
pub mod Journals
pub mod Records
