pub mod Bits
pub mod Modify
pub mod Moves
