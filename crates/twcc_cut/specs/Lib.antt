pub mod Numbered
pub mod Cut
pub mod Calls
