mod Kept
mod Logs
