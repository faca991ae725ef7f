pub mod Daybook
pub mod Runs
pub mod Account
pub mod Promises
pub mod HandOver
