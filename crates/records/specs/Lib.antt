pub mod Numbers
pub mod Records
pub mod Events
pub mod Tables
