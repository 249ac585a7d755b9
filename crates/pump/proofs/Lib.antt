pub mod Weighing
pub mod Into
pub mod Order
pub mod Cut
