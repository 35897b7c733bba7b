pub mod Interrupt
pub mod Jumps
pub mod Returns
pub mod Stack
