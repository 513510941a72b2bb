pub mod Item
pub mod Format
pub mod Decode
pub mod Reading
pub mod Whole
