pub mod Message
pub mod Over
pub mod Lengths
pub mod Padding
