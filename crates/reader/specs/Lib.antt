pub mod Stated
pub mod Readable
pub mod Shown
pub mod Rebuilt
