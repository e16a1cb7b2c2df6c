pub mod Arrivals
pub mod Cursor
pub mod Overlay
