pub mod Cell
pub mod Open
