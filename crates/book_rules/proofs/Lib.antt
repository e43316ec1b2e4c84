pub mod Keys
pub mod Upper
pub mod Standings
pub mod Rulings
pub mod Chains
pub mod Orders
pub mod Once
pub mod Some
