pub mod Station
pub mod Heard
pub mod Places
