pub mod Demands
pub mod FreshTable
