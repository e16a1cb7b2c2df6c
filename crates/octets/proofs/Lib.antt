pub mod Logic
pub mod Big
pub mod Unique
