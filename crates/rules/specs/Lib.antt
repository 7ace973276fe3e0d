pub mod Types
pub mod Tasks
pub mod Bits
pub mod Rulings
pub mod Rules
pub mod Well
pub mod Attentions
pub mod Refusals
