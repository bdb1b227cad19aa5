pub mod Carries
pub mod Decimals
pub mod Flags
pub mod Halves
pub mod Lowest
pub mod Parts
pub mod Sixteen
pub mod Tests
