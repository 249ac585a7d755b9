mod Candidates
pub mod Places
pub mod Sums
pub mod Slots
pub mod Fit
pub mod Clauses
pub mod Kept
pub mod Handles
pub mod Pool
pub mod Claims
pub mod Packed
