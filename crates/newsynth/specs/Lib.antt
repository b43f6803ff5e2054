pub mod Checks
pub mod Rows
pub mod Parts
pub mod Synth
