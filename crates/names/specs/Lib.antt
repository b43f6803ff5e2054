pub mod Named
pub mod Judged
pub mod Here
pub mod Records
