pub mod Over
pub mod Sweeping
pub mod Ticks
pub mod Moving
pub mod Parts
pub mod Both
pub mod Order
pub mod Four
