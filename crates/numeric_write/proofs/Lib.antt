pub mod Filling
pub mod Measuring
pub mod Putting
pub mod Writing
