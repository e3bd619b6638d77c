pub mod Numbers
pub mod Addresses
pub mod Pairs
pub mod Words
