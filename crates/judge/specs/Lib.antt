pub mod LastChecks
