pub mod Limits
pub mod Headers
pub mod Options
