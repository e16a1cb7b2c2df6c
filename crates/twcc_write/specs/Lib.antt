pub mod Limits
pub mod Promise
pub mod Stores
