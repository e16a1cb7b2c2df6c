pub mod Header
pub mod Check
