pub mod Empty
pub mod Lines
pub mod Live
pub mod Loading
pub mod Ready
pub mod Refusal
pub mod Run
pub mod Situation
