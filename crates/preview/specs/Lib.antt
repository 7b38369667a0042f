pub mod Lines
pub mod Drawings
