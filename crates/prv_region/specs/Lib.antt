pub mod Regions
pub mod Values
pub mod Zeros
pub mod Numbers
pub mod Copies
pub mod Pairs
