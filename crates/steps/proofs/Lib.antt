pub mod InPlace
pub mod Closes
pub mod Nobody
pub mod ListedEnds
pub mod Losers
pub mod StepTables
pub mod Closed
pub mod Noted
