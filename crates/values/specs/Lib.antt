pub mod Controls
pub mod ControlLaws
pub mod Targets
pub mod TargetsLaws
pub mod Values
pub mod ValueLaws
pub mod Worked
