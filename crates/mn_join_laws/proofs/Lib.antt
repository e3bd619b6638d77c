pub mod Passing
pub mod Growing
pub mod Landing
pub mod Holding
pub mod Entering
pub mod Handing
pub mod Arriving
pub mod Joined
