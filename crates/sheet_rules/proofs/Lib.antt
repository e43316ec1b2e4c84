pub mod Sums
pub mod Lists
pub mod Folds
pub mod There
pub mod Dials
pub mod Accounts
pub mod Cells
pub mod Drawn
