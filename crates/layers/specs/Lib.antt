pub mod Tracking
pub mod Fallback
pub mod Cache
