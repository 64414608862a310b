mod Walking
mod Lines
mod Parsing
mod Rules
