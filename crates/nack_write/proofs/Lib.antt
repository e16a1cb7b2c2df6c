pub mod Scan
pub mod Giving
pub mod Putting
pub mod Unique
