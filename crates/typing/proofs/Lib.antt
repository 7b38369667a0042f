pub mod Pressing
pub mod Texts
