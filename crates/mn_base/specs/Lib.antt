pub mod Numbers
pub mod Bytes
pub mod Rules
pub mod Refusals
pub mod Found
pub mod Ordered
pub mod Limits
