pub mod Says
pub mod Wrote
