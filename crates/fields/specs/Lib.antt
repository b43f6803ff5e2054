pub mod Answers
pub mod SameLaws
pub mod ManyLaws
