pub mod PrintedSizes
pub mod Widths
pub mod Tags
