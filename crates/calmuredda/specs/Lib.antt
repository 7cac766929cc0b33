pub mod Boundary
pub mod Private
pub mod Theorems
