pub mod Storing
pub mod Laws
pub mod Unique
pub mod Filling
