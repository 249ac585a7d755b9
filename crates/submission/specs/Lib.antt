pub mod Weigh
pub mod Submit
pub mod Transition
pub mod Replay
pub mod Ready
pub mod Order
