pub mod Packets
pub mod Scanning
pub mod Taking
