pub mod Bytes
pub mod Crashes
pub mod Faults
pub mod Laws
pub mod MemDisk
