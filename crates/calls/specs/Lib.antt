pub mod Ops
pub mod OpsLaws
pub mod Numbers
pub mod NumbersLaws
