pub mod Answers
pub mod Marks
pub mod Units
pub mod Walk
pub mod Worked
