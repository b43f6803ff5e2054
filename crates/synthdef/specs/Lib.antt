pub mod Twin
pub mod Reading
pub mod Worked
