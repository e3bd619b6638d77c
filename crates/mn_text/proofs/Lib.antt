pub mod Numbers
pub mod Again
pub mod Only
pub mod Parts
mod Feeds
