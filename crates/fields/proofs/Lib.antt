pub mod FromBack
pub mod Tests
pub mod Made
pub mod Fields
pub mod Numbers
pub mod Writes
pub mod Places
pub mod Parts
