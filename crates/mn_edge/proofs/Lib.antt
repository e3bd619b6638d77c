pub mod Laying
pub mod Fetching
pub mod Entries
pub mod Gathering
pub mod Results
