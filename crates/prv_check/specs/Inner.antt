-- How the checker keeps its tables. Nothing here says what a log is or when it is accepted.
pub mod Tables
pub mod Assigned
pub mod Signatures
pub mod Indexing
pub mod Testing
