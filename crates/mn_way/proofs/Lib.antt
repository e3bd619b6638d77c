pub mod Bound
pub mod Kept
pub mod Least
pub mod Lists
pub mod Steps
pub mod Turning
