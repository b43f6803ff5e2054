pub mod Places
pub mod PlaceLaws
pub mod Spans
pub mod SpanLaws
pub mod Walk
pub mod WalkLaws
