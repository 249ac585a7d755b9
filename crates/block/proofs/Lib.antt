pub mod Weigh
pub mod Kept
pub mod Queue
pub mod Cut
pub mod Later
pub mod Pools
pub mod Numbers
pub mod Steps
mod Going
mod Filling
