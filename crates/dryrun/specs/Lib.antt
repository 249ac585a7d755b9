pub mod Replay
pub mod Blocks
pub mod Call
pub mod Plays
pub mod Ready
