pub mod Divisors
pub mod Exact
pub mod Refusals
pub mod Signed
