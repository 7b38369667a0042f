pub mod Asked
pub mod Commands
pub mod Faults
pub mod Left
pub mod Lines
pub mod Reading
pub mod Splits
pub mod Theorems
