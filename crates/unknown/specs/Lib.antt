pub mod Parse
pub mod Packet
pub mod Write
pub mod Back
