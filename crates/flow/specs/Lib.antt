pub mod Bits
pub mod Compare
pub mod Loops
