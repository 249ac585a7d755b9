pub mod Fits
pub mod Held
pub mod Moves
pub mod Passes
pub mod Together
pub mod Numbers
pub mod Within
pub mod Blind
mod Leaping
