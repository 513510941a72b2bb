pub mod Loops
pub mod Runs
