mod Outcomes
pub mod Heads
mod Wholes
mod Decisions
