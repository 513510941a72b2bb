pub mod Decided
pub mod Parted
