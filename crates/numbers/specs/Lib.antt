pub mod Types
pub mod Boundary
