pub mod Faults
pub mod Lowest
pub mod Meaning
pub mod Made
pub mod Ratios
