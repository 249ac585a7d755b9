pub mod Held
pub mod Loaded
pub mod Retired
pub mod Opened
pub mod Kept
pub mod Spent
pub mod Own
