pub mod Talk
pub mod Laws
pub mod Keys
pub mod Alike
pub mod Joining
