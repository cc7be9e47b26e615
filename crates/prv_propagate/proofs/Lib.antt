pub mod Signs
pub mod Stepping
pub mod Tabling
pub mod Listing
pub mod Guarding
pub mod Walking
pub mod Extending
pub mod Attaching
