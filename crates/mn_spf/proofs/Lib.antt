pub mod Walks
pub mod Best
pub mod Steps
pub mod Adjacent
