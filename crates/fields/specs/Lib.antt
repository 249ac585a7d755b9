pub mod Bytes
pub mod Clips
pub mod Field
pub mod Steps
