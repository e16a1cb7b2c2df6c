pub mod Stands
pub mod Entries
pub mod Reading
pub mod Written
pub mod Tested
pub mod Unique
