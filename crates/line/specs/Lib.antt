pub mod Line
pub mod Theorems
pub mod Private
