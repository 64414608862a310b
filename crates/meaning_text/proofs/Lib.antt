mod Costing
mod Steps
mod Telling
