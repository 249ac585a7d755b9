pub mod Over
pub mod Adds
