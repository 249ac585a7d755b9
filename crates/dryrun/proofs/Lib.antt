pub mod Reasons
mod Blocks
mod Alike
mod Ready
mod Ran
pub mod Claim
