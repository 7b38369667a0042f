pub mod Faults
pub mod Meaning
pub mod Limits
pub mod Cells
