pub mod Counting
pub mod Numbered
pub mod Balance
pub mod Adding
pub mod Telling
pub mod Uncapped
pub mod Together
