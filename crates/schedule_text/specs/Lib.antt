pub mod Words
pub mod Reasons
pub mod Answers
pub mod Laws
pub mod Commands
pub mod Lines
pub mod Runs
