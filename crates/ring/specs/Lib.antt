pub mod Ring
pub mod Drain
