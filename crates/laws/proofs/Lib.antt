pub mod Bools
pub mod Lists
pub mod RecordsInLists
pub mod Bits
