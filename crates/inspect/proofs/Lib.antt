pub mod Loops
pub mod Keys
pub mod TableTest
