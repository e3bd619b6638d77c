pub mod Mail
pub mod Sending
