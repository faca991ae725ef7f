pub mod Sound
pub mod ReadsBack
pub mod Accepted
pub mod PlaysBack
