pub mod Named
pub mod Told
pub mod Played
