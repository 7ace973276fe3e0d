pub mod Searches
pub mod Types
pub mod OlderTasks
