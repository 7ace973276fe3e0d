pub mod Lists
pub mod RecordsInLists
