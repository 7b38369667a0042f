pub mod Gaps
pub mod Insertions
