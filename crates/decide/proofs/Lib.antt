pub mod Chosen
pub mod OlderTasks
