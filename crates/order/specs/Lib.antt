pub mod Bits
pub mod Events
pub mod Meaning
pub mod Machine
pub mod Right
pub mod Runs
