pub mod Standing
pub mod Rows
pub mod Walks
pub mod Routed
pub mod PacketLines
pub mod Holding
pub mod Frames
pub mod Showing
