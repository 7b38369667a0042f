pub mod Endings
pub mod Measures
pub mod Policies
pub mod Rows
pub mod Texts
