pub mod Words
pub mod Beginning
pub mod Carrying
pub mod Joining
pub mod Answers
pub mod Unique
