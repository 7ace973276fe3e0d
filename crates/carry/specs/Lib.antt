pub mod Carrying
pub mod Changes
