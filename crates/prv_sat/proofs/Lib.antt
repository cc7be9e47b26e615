pub mod Marked
pub mod Deriving
pub mod Analyzing
pub mod Minimizing
pub mod Learning
pub mod Searching
pub mod Finishing
