pub mod Deciding
pub mod Registry
pub mod Calls
