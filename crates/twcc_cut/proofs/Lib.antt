pub mod Numbering
pub mod Cutting
pub mod Answers
pub mod Calling
pub mod Unique
