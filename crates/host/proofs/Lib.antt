pub mod Mapped
pub mod Weighed
pub mod Round
pub mod Refusals
pub mod Under
mod Named
mod Parts
