pub mod Flying
pub mod Earliest
pub mod Contents
pub mod Places
pub mod Four
