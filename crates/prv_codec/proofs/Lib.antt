pub mod Bounds
pub mod Fields
pub mod Fits
pub mod Languages
pub mod Loops
pub mod Numbers
pub mod Sizes
mod WorkedRows
