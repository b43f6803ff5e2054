pub mod Arena
pub mod Slots
