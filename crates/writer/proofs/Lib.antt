pub mod Pens
pub mod Entries
mod BlockParts
pub mod Heads
pub mod Wholes
mod Parts
pub mod Front
