pub mod Judging
pub mod Passed
pub mod Turns
pub mod Writes
pub mod Answers
