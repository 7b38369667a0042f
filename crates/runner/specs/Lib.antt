pub mod Answers
pub mod Entries
pub mod Replays
pub mod Runs
