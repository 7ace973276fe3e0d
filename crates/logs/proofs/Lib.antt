pub mod Reading
pub mod Events
pub mod Stands
pub mod Onward
pub mod Walked
