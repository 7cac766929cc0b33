pub mod Body
pub mod Theorems
