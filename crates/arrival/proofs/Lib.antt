pub mod Sums
pub mod Quarters
pub mod Value
pub mod Laws
pub mod Walking
pub mod Unique
pub mod Division
