pub mod Trims
pub mod Draws
