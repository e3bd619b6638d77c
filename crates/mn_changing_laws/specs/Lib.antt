pub mod BothNext
pub mod Changing
pub mod MicroLoop
pub mod MicroLoopRun
