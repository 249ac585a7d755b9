pub mod RoundTrip
pub mod Least
