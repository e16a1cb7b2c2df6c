pub mod Cursors
pub mod Packets
