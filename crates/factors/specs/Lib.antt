pub mod Sets
pub mod Extremes
