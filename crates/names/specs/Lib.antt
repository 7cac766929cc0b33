pub mod Names
pub mod Theorems
pub mod Private
