pub mod Prelude
pub mod Language
pub mod Report
pub mod Playing
pub mod Laws
pub mod Answer
pub mod Headline
