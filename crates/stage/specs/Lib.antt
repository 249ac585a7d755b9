pub mod Mode
pub mod Playhead
pub mod Sound
pub mod Counters
pub mod Stage
pub mod Machine
pub mod Ready
