pub mod Record
pub mod Laws
pub mod Packets
pub mod Unique
pub mod Sound
pub mod Own
pub mod Rust
