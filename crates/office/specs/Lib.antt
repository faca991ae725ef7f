pub mod Store
pub mod Images
