pub mod Counting
pub mod Days
pub mod Calendar
