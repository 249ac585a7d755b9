pub mod Numbers
mod Leaves
pub mod Pumping
mod Stages
pub mod Tail
pub mod Laps
pub mod Kept
pub mod Declick
mod Magnitude
pub mod Modes
pub mod Together
pub mod Undo
pub mod Never
pub mod Exchanged
mod Fine
pub mod Cut
pub mod Feed
pub mod Portions
pub mod Later
pub mod Refused
pub mod Retire
mod Banked
mod Skips
pub mod Stale
pub mod Between
mod Taken
pub mod Senseless
pub mod Own
pub mod Room
pub mod Opens
pub mod Heard
pub mod Signs
pub mod Hosts
pub mod Tours
pub mod Saves
