pub mod Kept
pub mod Capture
pub mod Apply
