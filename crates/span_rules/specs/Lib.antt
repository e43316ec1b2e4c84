pub mod Lasts
pub mod Spans
pub mod Days
pub mod Anomalies
pub mod Figures
pub mod Laws
