pub mod Numbers
pub mod Follow
pub mod FollowWords
pub mod Spot
pub mod Edits
pub mod OneEntry
pub mod Kept
pub mod Followed
