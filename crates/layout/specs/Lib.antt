pub mod Widths
pub mod FirstFit
pub mod Scans
pub mod Covers
pub mod Layouts
pub mod Theorems
pub mod Settings
pub mod Styles
