mod Runs
mod Turns
mod Spelling
