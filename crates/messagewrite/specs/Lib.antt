pub mod Codes
pub mod Slots
pub mod Whole
pub mod Pieces
pub mod Addresses
