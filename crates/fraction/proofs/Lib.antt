pub mod Reduced
pub mod Unique
