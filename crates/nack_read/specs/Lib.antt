pub mod Named
pub mod Promise
