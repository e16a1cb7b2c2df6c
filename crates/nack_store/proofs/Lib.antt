pub mod Sets
pub mod Bytes
pub mod Store
pub mod Numbers
pub mod Tallying
pub mod Unique
