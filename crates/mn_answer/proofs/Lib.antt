pub mod Results
pub mod Ending
pub mod Putting
