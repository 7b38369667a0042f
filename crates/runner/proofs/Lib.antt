mod LineSteps
mod Taking
mod Turns
