pub mod Carried
pub mod Clean
pub mod Edges
pub mod Faults
pub mod Fitting
pub mod Histories
pub mod Laid
pub mod States
