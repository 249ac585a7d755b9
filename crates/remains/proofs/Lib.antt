pub mod Fates
pub mod Runs
pub mod Walk
pub mod Fresh
