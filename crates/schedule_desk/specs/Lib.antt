pub mod Answers
pub mod Failures
pub mod Founded
pub mod Held
pub mod Made
