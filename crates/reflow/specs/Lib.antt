pub mod Edits
pub mod Relaying
pub mod Repaints
pub mod Screens
pub mod Theorems
