pub mod Column
pub mod Examples
pub mod First
pub mod Lines
pub mod Order
pub mod Row
