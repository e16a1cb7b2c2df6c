pub mod Masks
pub mod Opens
pub mod Back
