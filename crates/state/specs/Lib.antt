pub mod Known
pub mod Refusing
pub mod Accepted
pub mod Does
pub mod Regions
pub mod Decoded
pub mod Fresh
