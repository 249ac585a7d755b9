pub mod Places
pub mod Pushed
pub mod Poured
pub mod Taking
pub mod Numbers
