pub mod Placed
pub mod Taken
