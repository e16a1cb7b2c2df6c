pub mod Filling
pub mod Symbols
pub mod Runs
pub mod Chunks
pub mod Outcomes
pub mod Keeping
pub mod Unique
