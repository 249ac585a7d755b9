mod Built
mod Found
mod Total
mod Lines
pub mod Same
pub mod Short
pub mod Accepted
pub mod Opened
