pub mod Block
pub mod Theorems
pub mod Private
