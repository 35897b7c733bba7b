pub mod Ascii
pub mod Within
pub mod Zeroed
