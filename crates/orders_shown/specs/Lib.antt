pub mod Rows
pub mod Session
pub mod Table
