pub mod Choice
pub mod ChoiceLaws
pub mod Parts
pub mod PartsLaws
pub mod Bytes
pub mod Patterns
pub mod Zeros
