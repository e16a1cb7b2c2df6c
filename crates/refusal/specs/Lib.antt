pub mod Outcome
pub mod Number
pub mod Said
pub mod Told
pub mod Words
