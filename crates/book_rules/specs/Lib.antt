pub mod Contents
pub mod Refusing
pub mod Telling
pub mod Tests
pub mod Laws
