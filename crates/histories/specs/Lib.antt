pub mod Found
pub mod Frozen
pub mod Histories
pub mod Judged
pub mod Keys
pub mod Lookups
pub mod Model
pub mod Rules
