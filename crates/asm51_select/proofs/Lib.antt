pub mod Adding
mod Steps
mod Held
mod Reaching
mod Does
mod Spares
mod Standing
mod Finding
mod Preserved
mod Counts
mod Formed
mod Lengths
mod Blocks
mod Fitting
mod Selection
mod Promises
