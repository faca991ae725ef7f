pub mod Kinds
pub mod Findings
