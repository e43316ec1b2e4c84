pub mod Acting
pub mod Counted
pub mod Ruled
pub mod Services
pub mod Storage
