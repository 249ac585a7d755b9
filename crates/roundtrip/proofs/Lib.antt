pub mod Front
pub mod Written
pub mod Back
pub mod Again
pub mod Calls
pub mod Places
pub mod Lowest
