pub mod Sums
pub mod Lasts
pub mod Serving
pub mod Judging
pub mod Tracks
pub mod Curves
pub mod Steps
