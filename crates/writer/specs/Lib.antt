pub mod Unwritten
pub mod Pens
pub mod Blocks
pub mod Jobs
pub mod Written
