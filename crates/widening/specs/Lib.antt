pub mod Walk
pub mod Moved
pub mod Pieces
pub mod Widened
pub mod Encoded
pub mod Worked
