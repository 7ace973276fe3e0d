pub mod Steps
pub mod Closing
pub mod Reports
