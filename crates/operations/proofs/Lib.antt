pub mod Looked
pub mod Starts
pub mod Names
pub mod Answered
pub mod Carried
pub mod Buffers
