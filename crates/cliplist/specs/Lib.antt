pub mod Start
pub mod Words
