pub mod Refusals
pub mod Tables
pub mod Rows
pub mod Sheets
