pub mod Section
pub mod Theorems
pub mod Private
