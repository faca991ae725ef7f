pub mod Archived
pub mod Runs
