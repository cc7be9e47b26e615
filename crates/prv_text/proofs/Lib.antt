pub mod Capped
pub mod Spelling
pub mod Writing
pub mod Mapped
pub mod Counting
pub mod Conditions
pub mod Live
