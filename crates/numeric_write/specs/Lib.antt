pub mod Going
pub mod Laid
pub mod Measure
pub mod Plans
pub mod Props
pub mod Sink
pub mod States
