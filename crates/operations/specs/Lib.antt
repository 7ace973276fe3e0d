pub mod Types
pub mod AnswerNumbers
pub mod Operations
