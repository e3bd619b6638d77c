pub mod Attached
pub mod Few
pub mod Life
pub mod Spent
pub mod Ways
