pub mod Past
pub mod Clock
pub mod Clamped
pub mod Keeps
pub mod Weight
pub mod Passes
