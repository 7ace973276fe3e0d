pub mod Calls
pub mod Seen
pub mod WorstCalls
pub mod Demands
