pub mod Access
pub mod Words
