pub mod Font
pub mod Pile
