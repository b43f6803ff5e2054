pub mod Skips
pub mod Forward
pub mod File
pub mod FileLaws
