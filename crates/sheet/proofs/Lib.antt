pub mod Continuing
pub mod Replacing
pub mod Remeasuring
pub mod Showing
pub mod Edging
pub mod Settled
pub mod Unchanging
