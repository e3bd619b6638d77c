mod Lists
mod Having
mod Keeping
mod Passing
pub mod GivingUp
pub mod Offering
