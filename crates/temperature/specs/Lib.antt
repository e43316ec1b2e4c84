pub mod Adjusting
pub mod Loading
