mod Sizes
mod Walk
mod Checks
pub mod Parts
pub mod Ranged
pub mod Typed
pub mod Refuse
pub mod Ready
pub mod Kept
