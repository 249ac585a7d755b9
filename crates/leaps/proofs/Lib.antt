pub mod Laps
pub mod Cursor
pub mod Part
pub mod Replay
pub mod Equal
pub mod Running
pub mod Ready
