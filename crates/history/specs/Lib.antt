pub mod History
pub mod Waits
