pub mod Causes
pub mod Fields
pub mod Pairs
pub mod Parts
pub mod Payloads
pub mod Reading
pub mod Records
pub mod Spelling
