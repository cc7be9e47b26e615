pub mod Literals
pub mod Parts
pub mod Settlements
pub mod Holders
pub mod Codes
pub mod Kept
