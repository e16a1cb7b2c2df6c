pub mod Big
pub mod Bounds
pub mod Signed
