pub mod Asked
pub mod Critical
pub mod First
pub mod Found
pub mod Remaining
pub mod Search
