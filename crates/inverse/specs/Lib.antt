pub mod Same
pub mod Encoded
pub mod Least
pub mod Theorems
pub mod Private
