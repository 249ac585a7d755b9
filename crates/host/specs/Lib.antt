pub mod Kept
pub mod Arguments
pub mod Answers
pub mod Calls
