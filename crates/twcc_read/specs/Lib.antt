pub mod Promise
pub mod Within
pub mod Filled
