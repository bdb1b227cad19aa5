pub mod Decimals
pub mod Digits
pub mod Faults
pub mod Parts
