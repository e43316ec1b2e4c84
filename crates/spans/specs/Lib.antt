pub mod Numbers
pub mod Finding
pub mod Judging
