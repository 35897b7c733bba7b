pub mod Act
pub mod Decode
pub mod Execute
pub mod Request
