pub mod Numerals
pub mod PutBlocks
