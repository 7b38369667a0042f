mod Grammar
mod LineSteps
mod Options
mod ReadSteps
mod Spelling
mod Splitting
