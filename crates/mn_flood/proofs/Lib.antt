pub mod Queues
pub mod Wired
pub mod Sends
pub mod Worlds
pub mod Views
pub mod Sounds
