pub mod Bits
pub mod Checks
pub mod Newest
pub mod Runs
pub mod Stamps
