pub mod Pass
pub mod Rust
pub mod Record
pub mod Walk
pub mod Said
pub mod Packets
pub mod Sound
pub mod Inner
