pub mod Forms
pub mod Loading
pub mod Draining
pub mod Moments
pub mod Accounting
pub mod Playing
pub mod Generating
pub mod Doing
