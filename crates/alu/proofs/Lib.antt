pub mod Codes
pub mod Differences
pub mod Digits
pub mod SingleBits
