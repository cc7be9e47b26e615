pub mod Frames
pub mod Runs
pub mod Telling
pub mod Points
