pub mod ColumnLaws
pub mod ColumnPushed
pub mod LineLaws
pub mod OrderLaws
