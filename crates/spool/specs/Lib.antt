pub mod Open
pub mod Find
pub mod Rows
