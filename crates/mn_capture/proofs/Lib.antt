pub mod Counts
pub mod Feeds
pub mod Packets
pub mod Fetched
pub mod Answering
