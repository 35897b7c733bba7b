pub mod Checksum
pub mod Digits
pub mod Examples
pub mod Load
pub mod Reader
pub mod Record
pub mod Refusal
