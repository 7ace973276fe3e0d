pub mod Prints
pub mod Worked
