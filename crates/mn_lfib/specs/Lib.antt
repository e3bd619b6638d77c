pub mod Forwarding
pub mod Hop
pub mod Kept
pub mod Uses
