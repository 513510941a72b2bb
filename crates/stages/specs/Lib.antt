pub mod Births
pub mod Machine
pub mod Model
pub mod Runs
pub mod Law
pub mod Places
