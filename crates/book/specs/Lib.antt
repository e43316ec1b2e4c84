pub mod Sites
pub mod Books
