pub mod Course
pub mod Declined
pub mod Examples
pub mod Orders
pub mod Phase
pub mod Rows
