pub mod Values
pub mod ReadBack
pub mod Good
pub mod WordTests
pub mod GoodSays
pub mod TaskRecords
pub mod EventsSay
