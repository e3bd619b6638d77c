pub mod Numbers
pub mod Routes
pub mod InTurn
pub mod Communities
