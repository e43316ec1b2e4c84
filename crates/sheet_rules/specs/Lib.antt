pub mod Dials
pub mod Rows
pub mod Account
pub mod Drawing
pub mod Laws
