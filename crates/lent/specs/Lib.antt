pub mod Bytes
pub mod Fills
pub mod Room
pub mod Store
pub mod Part
