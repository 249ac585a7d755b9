pub mod Block
pub mod Fill
