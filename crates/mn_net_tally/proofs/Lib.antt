pub mod Sent
pub mod Statics
pub mod Counting
pub mod Rising
pub mod Few
pub mod AtStart
pub mod Frame
