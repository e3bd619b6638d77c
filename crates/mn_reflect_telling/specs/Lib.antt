pub mod Prelude
pub mod Found
pub mod Names
pub mod Passing
pub mod Mentions
pub mod Telling
pub mod Said
pub mod Starting
