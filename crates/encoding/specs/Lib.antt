pub mod Encoding
pub mod Lengths
pub mod Walked
pub mod Worked
