pub mod Asking
pub mod Bytes
pub mod Loading
pub mod Reading
pub mod Refusals
pub mod Spelling
