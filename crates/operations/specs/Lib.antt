pub mod Combine
pub mod Stores
pub mod Words
