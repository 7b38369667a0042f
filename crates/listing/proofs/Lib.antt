mod Adding
mod Spacing
mod Standing
