pub mod Pad
pub mod Visits
pub mod Order
pub mod Same
pub mod Marks
pub mod Tables
pub mod Kept
pub mod Checks
