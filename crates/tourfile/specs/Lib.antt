pub mod Answer
pub mod Reader
pub mod Writer
pub mod Steps
