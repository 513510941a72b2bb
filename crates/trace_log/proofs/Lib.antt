pub mod Numbers
pub mod Trip
pub mod Joins
pub mod Fronts
pub mod Wholes
