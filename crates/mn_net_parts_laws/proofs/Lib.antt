pub mod Numbers
pub mod News
pub mod InTime
pub mod Due
pub mod Going
pub mod Counted
pub mod Moved
pub mod Steps
