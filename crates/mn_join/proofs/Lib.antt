pub mod Landed
pub mod Sides
pub mod Growing
pub mod HandedOver
pub mod Coursing
pub mod Sending
pub mod Joined
pub mod Starting
