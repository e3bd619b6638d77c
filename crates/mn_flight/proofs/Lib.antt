pub mod Members
pub mod Taken
pub mod First
pub mod Kept
pub mod OnChannels
