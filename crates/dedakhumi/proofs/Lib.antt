mod FreshTable
pub mod Fulfilled
