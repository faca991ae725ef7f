pub mod Back
pub mod Found
pub mod Chains
pub mod Calls
