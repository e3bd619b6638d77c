pub mod Prelude
pub mod Words
pub mod Answer
pub mod Jobs
pub mod Moments
pub mod Headline
