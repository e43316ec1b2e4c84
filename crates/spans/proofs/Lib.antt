pub mod Situations
pub mod Judged
pub mod Seen
pub mod Around
pub mod Beginning
