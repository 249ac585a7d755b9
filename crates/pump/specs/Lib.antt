pub mod Pump
pub mod Into
