pub mod Tally
pub mod Counters
