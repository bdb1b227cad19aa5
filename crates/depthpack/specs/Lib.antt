pub mod Failures
pub mod Tallies
