pub mod EnterHeld
