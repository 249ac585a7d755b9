pub mod Laps
pub mod Dry
pub mod Same
pub mod Equal
pub mod Run
