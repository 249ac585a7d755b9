pub mod Places
mod Walk
pub mod Next
pub mod Fires
pub mod Agree
pub mod Lent
