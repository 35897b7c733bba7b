pub mod Address
pub mod Leaves
