pub mod Voices
pub mod Core
pub mod Run
pub mod Frames
