pub mod Followed
pub mod Gathered
pub mod Painted
