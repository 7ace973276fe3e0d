pub mod SoFar
pub mod Walking
