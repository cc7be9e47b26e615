pub mod Trails
pub mod Reasons
pub mod Guards
pub mod Watching
pub mod Keeping
pub mod Soundness
pub mod Walking
pub mod Loading
