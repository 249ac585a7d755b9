pub mod Heard
pub mod Pair
pub mod Voice
pub mod Mix
pub mod Sounding
pub mod Lent
