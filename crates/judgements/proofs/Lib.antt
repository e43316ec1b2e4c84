pub mod Weighings
pub mod Parties
pub mod Figures
