mod Writing
mod Putting
mod Refusing
mod Places
