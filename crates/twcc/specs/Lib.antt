pub mod Time
pub mod Words
pub mod Status
pub mod Chunks
pub mod Block
