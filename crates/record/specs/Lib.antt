pub mod Bytes
pub mod Depths
pub mod Faults
pub mod Kinds
pub mod Numbers
pub mod Requests
